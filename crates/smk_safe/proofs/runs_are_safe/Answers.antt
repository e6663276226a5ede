use Rattle.smk_safe.proofs.Going.{ready_turns_are_run}
use Rattle.smk_safe.proofs.Safe.{run_is_safe}
use Rattle.smk_safe.proofs.runs_are_safe.Goals as goal

pub returns : goal.returns
returns c = record { go_on = ready_turns_are_run; safe = run_is_safe }
