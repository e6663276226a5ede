-- Lines, outputs that are made read-only, and the faults of the parts of a run.
use Rattle.std.specs.Prelude.{◌≡◌, Bool, true, false, List, [], ◌∷◌, Result, Ok}
use Rattle.smk_world.specs.declared.event.Event.{Event}
use Rattle.smk_world.specs.declared.event.WorkFault.{WorkFault}
use Rattle.smk_world.specs.declared.event.WorkFault.TheVariants as work
use Rattle.smk_world.specs.World.{World}
use Rattle.smk_world.specs.Trees.{Path}
use Rattle.smk_report.specs.Lines.{Text}
use Rattle.smk_report.specs.declared.fault.Fault.{Fault}
use Rattle.smk_report.specs.declared.fault.Fault.TheVariants as fault
use Rattle.smk_keep.specs.declared.fault.KeepFault.{KeepFault}
use Rattle.smk_keep.specs.declared.fault.KeepFault.TheVariants as keep
use Rattle.smk_keep.specs.Keeping.{HasTried, protect_requests}
use Rattle.smk_job.specs.declared.fault.BeginFault.{BeginFault}
use Rattle.smk_job.specs.declared.fault.BeginFault.TheVariants as begin
use Rattle.smk_run.specs.Reports.{IsReport}

-- ## Lines

-- the line, or a front of it where the sink failed; nothing where no line is put any more
abbrev pub IsPutIf : Bool → Bool → Text → Text → Type 0
IsPutIf true ok line text = IsReport ok line text
IsPutIf false ok line text = text ≡ []

-- ## Outputs that are made read-only

-- nothing was done where there are none; else the calls that make them read-only for good, or those up to one that failed, or none
abbrev pub HasGuarded : List Path → Result (Unit {0}) KeepFault → World → List Event → Type 0
HasGuarded [] result w es = (result ≡ Ok tt) × (es ≡ [])
HasGuarded (p ∷ guards) result w es = HasTried (protect_requests (p ∷ guards)) result w es

-- ## Faults

-- why a job doesn't begin, as a fault
abbrev pub begin_fault : Text → BeginFault → Fault
begin_fault rule (begin.TooLong bytes) = fault.TooLong rule bytes
begin_fault rule begin.Device = fault.Device
begin_fault rule begin.OutOfMemory = fault.OutOfMemory

-- why outputs aren't protected or removed, as a fault
abbrev pub keep_fault : KeepFault → Fault
keep_fault keep.Device = fault.Device
keep_fault keep.OutOfMemory = fault.OutOfMemory

-- why a job isn't closed, or the folder not looked at, as a fault
abbrev pub work_fault : WorkFault → Fault
work_fault work.Failed = fault.Device
work_fault work.OutOfMemory = fault.OutOfMemory
