use Rattle.smk_run.proofs.Telling.{closed_turn_tells}
use Rattle.smk_run.proofs.laws.closed_turns_tell_status.Goals as goal

pub returns : goal.returns
returns c = closed_turn_tells
