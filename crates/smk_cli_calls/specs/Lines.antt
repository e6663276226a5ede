-- The fault of the outcome, and its line.
use Rattle.std.specs.Prelude.{◌≡◌, ◌⊎◌, Bool, true, [], Option, Some, None, IsSome}
use Rattle.smk_world.specs.Devices.{Sunk}
use Rattle.smk_report.specs.declared.fault.Fault.{Fault}
use Rattle.smk_report.specs.declared.fault.Fault.TheVariants as fault
use Rattle.smk_report.specs.Faults.{fault_text}
use Rattle.smk_report.specs.Lines.{Text}
use Rattle.smk_run.specs.Reports.{HasReported, IsFront}

-- the fault of the outcome: the answer's, or want of memory in place of it
abbrev pub IsOutcome : Option Fault → Option Fault → Type 0
IsOutcome answer told = (told ≡ answer) ⊎ (IsSome answer × (told ≡ Some fault.OutOfMemory))

-- the line of the fault, whole unless the sink failed or memory is wanting
abbrev pub IsFaultLine : Option Fault → Bool → Text → Type 0
IsFaultLine None failed text = text ≡ []
IsFaultLine (Some f) failed text = IsFront text (fault_text f) × ((text ≡ fault_text f) ⊎ ((failed ≡ true) ⊎ (f ≡ fault.OutOfMemory)))

-- The line of this fault, if there is one, was put, and nothing else.
pub record HasToldFault (told : Option Fault) (old new : Sunk) : Type 0 where
  -- the sink failed
  pub failed : Bool
  pub line : HasReported (IsFaultLine told failed) old new failed
