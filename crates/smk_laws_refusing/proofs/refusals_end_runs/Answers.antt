use Rattle.smk_laws_refusing.proofs.Clear.{unhalted_was_clear}
use Rattle.smk_laws_refusing.proofs.Refusing.{first_fault_ends, met, refused_at_entry_ends}
use Rattle.smk_laws_refusing.proofs.refusals_end_runs.Goals as goal

pub returns : goal.returns
returns c = record { clear = unhalted_was_clear; met = met; first = first_fault_ends; entry = refused_at_entry_ends }
