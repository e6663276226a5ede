-- Faults of putting a listing.
use Rattle.std.proofs.Common.{◌≡◌, ◌⊎◌, subst, Result, Err}
use Rattle.std.specs.Prelude.{IfErr}
use Rattle.smk_report.specs.declared.fault.Fault.{Fault}
use Rattle.smk_report.specs.declared.fault.Fault.TheVariants as fault
use Rattle.smk_cli_calls.specs.Listing.{IsFault}

pub listing_faults : (r : Result (Unit {0}) Fault) → IfErr r IsFault → (f : Fault) → r ≡ Err f → (f ≡ fault.Output) ⊎ (f ≡ fault.OutOfMemory)
listing_faults r h f is = subst (λ x. IfErr x IsFault) is h
