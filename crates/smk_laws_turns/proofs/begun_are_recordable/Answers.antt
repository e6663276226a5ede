use Rattle.smk_laws_turns.proofs.Guards.{begun_is_recordable}
use Rattle.smk_laws_turns.proofs.begun_are_recordable.Goals as goal

pub returns : goal.returns
returns c = begun_is_recordable
