-- Where each target has a clean value no job fails.
use Rattle.std.specs.Prelude.{◌≡◌, None, Some, Ok}
use Rattle.smk_world.specs.Calls.{Rose}
use Rattle.smk_world.specs.Devices.{Device, Sunk}
use Rattle.smk_world.specs.World.{World}
use Rattle.smk_record.specs.Spelling.{ReadsRecords}
use Rattle.smk_store.specs.Soundness.{Outside, SoundWorld}
use Rattle.smk_store.specs.Trust.{SumsDiffer, Versions}
use Rattle.smk_laws_complete.specs.Derived.{AllHaveValues, GathersAlone}
use Rattle.smk_drive.specs.Moments.{Rules}
use Rattle.smk_drive_course.specs.declared.ending.End.{End}
use Rattle.smk_drive_course.specs.Driven.{HasDriven}
use Rattle.smk_laws_driven.specs.Ended.{setting_in}

-- A run from a folder that is sound for versions of which no two different contents have the same SHA-256, of any workflow, with checkpoints and directories too:
-- where each target has a clean value, and no count of faults rose, it has no failed job when it comes to its end, also where spent outputs were removed.
abbrev pub DrivenSucceeds : Type 0
DrivenSucceeds =
    (o : Outside) (rules : Rules) (H : Versions) (end : End) (w v : World) (old new : Device) (out_old out_new : Sunk) →
    old.world ≡ Some w →
    new.world ≡ Some v →
    rules.read ≡ o.read →
    ReadsRecords o.read →
    SumsDiffer H →
    SoundWorld o w H →
    GathersAlone rules.flow →
    AllHaveValues (setting_in o rules w) rules.settings.targets →
    ¬ (Rose old.faults new.faults) → HasDriven o.act rules (Ok end) old new out_old out_new → end.first ≡ None
