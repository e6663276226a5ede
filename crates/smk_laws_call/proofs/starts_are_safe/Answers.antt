use Rattle.smk_laws_call.proofs.Started.{runs_start_on_finished}
use Rattle.smk_laws_call.proofs.starts_are_safe.Goals as goal

pub returns : goal.returns
returns c = runs_start_on_finished
