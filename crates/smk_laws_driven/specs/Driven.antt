-- What a run with jobs side by side means for a sound folder.
use Rattle.std.specs.Prelude.{◌≡◌, true, List, [], ◌++◌, Some, Result, is_ok}
use Rattle.smk_world.specs.declared.event.Event.{Event}
use Rattle.smk_world.specs.World.{World, run}
use Rattle.smk_world.specs.Devices.{Device, Sunk}
use Rattle.smk_world.specs.Runs.{Follows}
use Rattle.smk_record.specs.Spelling.{ReadsRecords}
use Rattle.smk_store.specs.Soundness.{Outside, SoundWorld}
use Rattle.smk_store.specs.Trust.{SumsDiffer, Versions}
use Rattle.smk_laws_protocol.specs.Midway.{HasSafeImages}
use Rattle.smk_laws_refusing.specs.Parts.{IsRun}
use Rattle.smk_report.specs.declared.fault.Fault.{Fault}
use Rattle.smk_drive.specs.Moments.{Rules}
use Rattle.smk_drive_course.specs.declared.ending.End.{End}
use Rattle.smk_drive_course.specs.Driven.{HasDriven}

-- A run that ended so led from the one world to the other, and keeps the folder safe: its events are a run of the protocol; after every prefix of them whatever
-- a crash leaves is sound, and has the sources of the entry; and where no child is left, the folder is sound at the end, as it is where the run came to its end.
pub record IsSafeDrive (o : Outside) (H : Versions) (result : Result End Fault) (w v : World) : Type 0 where
  pub events : List Event
  pub follows : Follows o.act w events
  pub is : v ≡ run w events
  pub by_protocol : IsRun o w events
  pub throughout : (es rest : List Event) → events ≡ es ++ rest → HasSafeImages o w (run w es) H
  pub at_end : (run w events).children ≡ [] → SoundWorld o (run w events) H
  pub well : is_ok result ≡ true → SoundWorld o v H

-- A run in a sound folder is safe, however it ends.
abbrev pub DrivenIsSafe : Type 0
DrivenIsSafe =
    (o : Outside) (rules : Rules) (H : Versions) (result : Result End Fault) (w v : World) (old new : Device) (out_old out_new : Sunk) →
    old.world ≡ Some w →
    new.world ≡ Some v →
    rules.read ≡ o.read →
    ReadsRecords o.read →
    SumsDiffer H → SoundWorld o w H → HasDriven o.act rules result old new out_old out_new → IsSafeDrive o H result w v
