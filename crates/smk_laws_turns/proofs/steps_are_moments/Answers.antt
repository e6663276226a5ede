use Rattle.smk_laws_turns.proofs.AllStands.{step_is_moment}
use Rattle.smk_laws_turns.proofs.BeginningOf.{beginning_is_moment}
use Rattle.smk_laws_turns.proofs.ClosingOf.{closing_is_moment, leaving_is_moment}
use Rattle.smk_laws_turns.proofs.steps_are_moments.Goals as goal

pub returns : goal.returns
returns c = record { begin = beginning_is_moment; close = closing_is_moment; leave = leaving_is_moment; step = step_is_moment }
