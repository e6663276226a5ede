use Rattle.smk_laws_refusing.proofs.Moves.{lock_calls_are_runs}
use Rattle.smk_laws_refusing.proofs.Parts.{parts_are_call, parts_are_safe}
use Rattle.smk_laws_refusing.proofs.locked_runs_are_safe.Goals as goal

pub returns : goal.returns
returns c = record { calls = lock_calls_are_runs; safe = parts_are_safe; call = parts_are_call }
