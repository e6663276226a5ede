use Rattle.smk_laws_moments.proofs.Fates.{broken_is_halted, first_fault_stays, starts_are_told}
use Rattle.smk_laws_moments.proofs.steps_go_on.Goals as goal

pub returns : goal.returns
returns c = record { first = first_fault_stays; broken = broken_is_halted; told = starts_are_told }
