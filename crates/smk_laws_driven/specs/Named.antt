-- How a run with jobs side by side ends where each target has a clean value.
use Rattle.std.specs.Prelude.{◌≡◌, ◌⊎◌, None, Some, Result, Ok, Err}
use Rattle.smk_world.specs.Calls.{Rose}
use Rattle.smk_world.specs.Devices.{Device, Sunk}
use Rattle.smk_world.specs.World.{World}
use Rattle.smk_record.specs.Spelling.{ReadsRecords}
use Rattle.smk_store.specs.Soundness.{Outside, SoundWorld}
use Rattle.smk_store.specs.Trust.{SumsDiffer, Versions}
use Rattle.smk_plan.specs.States.{nothing_done}
use Rattle.smk_report.specs.declared.fault.Fault.{Fault}
use Rattle.smk_laws_complete.specs.Derived.{AllHaveValues, GathersAlone}
use Rattle.smk_laws_complete.specs.Planned.{MayStop}
use Rattle.smk_drive.specs.Moments.{Rules, seen}
use Rattle.smk_drive_course.specs.declared.ending.End.{End}
use Rattle.smk_drive_course.specs.Driven.{HasDriven}
use Rattle.smk_laws_driven.specs.Completing.{MayBreakOff}
use Rattle.smk_laws_driven.specs.Ended.{PlansArePlain, setting_in}

-- The run may be refused so, at its entry or later: for too many paths; for what clashes by the plans of its entry; or for how the folder stands, or what the
-- call allows. Or it broke off.
abbrev pub IsNamed : Rules → World → Fault → Type 0
IsNamed rules w f = MayStop rules (seen rules w) nothing_done f ⊎ MayBreakOff f

-- no job failed, or the fault is such a one
abbrev pub EndsNamed : Rules → World → Result End Fault → Type 0
EndsNamed rules w (Ok end) = end.first ≡ None
EndsNamed rules w (Err f) = IsNamed rules w f

-- A run from a folder that is sound for versions of which no two different contents have the same SHA-256, of jobs that make plain files and gather nothing,
-- where each target has a clean value: a fault with which it ends is such a one, also where spent outputs were removed.
abbrev pub DrivenFaultsAreNamed : Type 0
DrivenFaultsAreNamed =
    (o : Outside) (rules : Rules) (H : Versions) (f : Fault) (w v : World) (old new : Device) (out_old out_new : Sunk) →
    old.world ≡ Some w →
    new.world ≡ Some v →
    rules.read ≡ o.read →
    ReadsRecords o.read →
    SumsDiffer H →
    SoundWorld o w H →
    PlansArePlain rules →
    GathersAlone rules.flow →
    AllHaveValues (setting_in o rules w) rules.settings.targets → HasDriven o.act rules (Err f) old new out_old out_new → IsNamed rules w f

-- And where no count of faults rose it has no failed job when it comes to its end.
abbrev pub DrivenIsComplete : Type 0
DrivenIsComplete =
    (o : Outside) (rules : Rules) (H : Versions) (result : Result End Fault) (w v : World) (old new : Device) (out_old out_new : Sunk) →
    old.world ≡ Some w →
    new.world ≡ Some v →
    rules.read ≡ o.read →
    ReadsRecords o.read →
    SumsDiffer H →
    SoundWorld o w H →
    PlansArePlain rules →
    GathersAlone rules.flow →
    AllHaveValues (setting_in o rules w) rules.settings.targets →
    ¬ (Rose old.faults new.faults) → HasDriven o.act rules result old new out_old out_new → EndsNamed rules w result
