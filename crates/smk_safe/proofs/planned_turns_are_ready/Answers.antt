use Rattle.smk_safe.proofs.Planned.{planned_turns_are_ready}
use Rattle.smk_safe.proofs.planned_turns_are_ready.Goals as goal

pub returns : goal.returns
returns c = record { ready = planned_turns_are_ready }
