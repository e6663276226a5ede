-- A run whose plans are refused at its entry leaves all as it stands.
use Rattle.std.specs.Prelude.{◌≡◌, ◌⊎◌, Bool, true, false, List, [], ◌++◌, Some, None, Result, Err, is_ok}
use Rattle.smk_world.specs.declared.event.Event.{Event}
use Rattle.smk_world.specs.World.{World, run}
use Rattle.smk_world.specs.Calls.{HasCause, started_numbers}
use Rattle.smk_world.specs.Devices.{AreLooks, Device, HasEnded, Sunk}
use Rattle.smk_world.specs.Trees.{Act, Path}
use Rattle.smk_plan.specs.States.{nothing_done}
use Rattle.smk_keep.specs.declared.fault.KeepFault.{KeepFault}
use Rattle.smk_keep_lock.specs.Changing.{ChangesOnly}
use Rattle.smk_report.specs.declared.fault.Fault.{Fault}
use Rattle.smk_report.specs.declared.fault.Fault.TheVariants as fault
use Rattle.smk_drive.specs.Moments.{Rules, seen}
use Rattle.smk_drive.specs.Refusals.{ChainRefuses}
use Rattle.smk_drive_course.specs.declared.ending.End.{End}
use Rattle.smk_drive_course.specs.Driven.{HasDriven, IsOpening}
use Rattle.smk_drive_course.specs.Reports.{is_device}

-- A run opened and did nothing else, but that looks may have followed.
pub record HasOnlyOpened (rules : Rules) (w : World) (es : List Event) : Type 0 where
  pub opened : Result (Unit {0}) KeepFault
  pub opening : List Event
  pub looks : List Event
  pub split : es ≡ opening ++ looks
  pub opens : IsOpening rules w opened opening
  pub only_looks : AreLooks false looks

-- All is left as it stands, but what is at or under some places, and folders above them: the same reads, and a crash leaves nothing that it wouldn't have left
-- before; no child was started, and the same ones run.
pub record LeavesAllBut (places : List Path) (w : World) (es : List Event) : Type 0 where
  pub stays : ChangesOnly places places w (run w es)
  pub unstarted : started_numbers es ≡ []
  pub children : (run w es).children ≡ w.children

-- Nothing was put: the sink is as it was; or it failed, and what it tells, if it still does, is what it told.
abbrev pub IsUnput : Sunk → Sunk → Type 0
IsUnput old new = (new ≡ old) ⊎ (HasCause old.faults new.faults true × ((new.put ≡ old.put) ⊎ (new.put ≡ None)))

-- A run did nothing but open, which leaves all as it stands, and put nothing. It ends with what is refused of the plans of its entry, or with a fault of the
-- device or of memory.
pub record WasRefused (act : Act) (rules : Rules) (w : World) (result : Result End Fault) (old new : Device) (out_old out_new : Sunk) : Type 0 where
  pub answer : Fault
  pub answered : result ≡ Err answer
  pub why : ChainRefuses rules (seen rules w) nothing_done [] answer ⊎ ((answer ≡ fault.Device) ⊎ (answer ≡ fault.OutOfMemory))
  -- a call of the device failed
  pub failure : Bool
  pub tells : is_device answer ≡ true → failure ≡ true
  pub left : HasEnded act (λ u es. HasOnlyOpened rules u es × LeavesAllBut [] u es) old new failure
  pub unput : IsUnput out_old out_new

-- Where the plans of the entry are refused a run ends with a fault;
abbrev pub RefusedAtEntryFails : Type 0
RefusedAtEntryFails =
    (act : Act) (rules : Rules) (result : Result End Fault) (w : World) (f : Fault) (old new : Device) (out_old out_new : Sunk) →
    old.world ≡ Some w →
    ChainRefuses rules (seen rules w) nothing_done [] f → HasDriven act rules result old new out_old out_new → is_ok result ≡ false

-- and it leaves all as it stands, where its folder is still told at the end, as it is unless a call of the device failed.
abbrev pub RefusedAtEntryLeavesAll : Type 0
RefusedAtEntryLeavesAll =
    (act : Act) (rules : Rules) (result : Result End Fault) (w v : World) (f : Fault) (old new : Device) (out_old out_new : Sunk) →
    old.world ≡ Some w →
    new.world ≡ Some v →
    ChainRefuses rules (seen rules w) nothing_done [] f →
    HasDriven act rules result old new out_old out_new → WasRefused act rules w result old new out_old out_new
