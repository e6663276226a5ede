use Rattle.smk_safe.proofs.Dues.{due_run_is_safe, due_turns_are_ready}
use Rattle.smk_safe.proofs.due_turns_are_ready.Goals as goal

pub returns : goal.returns
returns c = record { ready = due_turns_are_ready; safe = due_run_is_safe }
