-- A call is safe: whatever a crash leaves of it is sound, and has the sources of the entry.
use Rattle.std.specs.Prelude.{◌≡◌, List, [], ◌++◌, Option, Some, None}
use Rattle.smk_world.specs.declared.event.Event.{Event}
use Rattle.smk_world.specs.World.{World, run}
use Rattle.smk_world.specs.Devices.{Device, Sunk}
use Rattle.smk_world.specs.Runs.{Follows}
use Rattle.smk_record.specs.Spelling.{ReadsRecords}
use Rattle.smk_store.specs.Soundness.{Outside, SoundWorld}
use Rattle.smk_store.specs.Trust.{Versions, SumsDiffer}
use Rattle.smk_laws_protocol.specs.Midway.{HasSafeImages}
use Rattle.smk_report.specs.declared.fault.Fault.{Fault}
use Rattle.smk_words_reading.specs.declared.asked.Asked.{Asked as Request}
use Rattle.smk_cli_calls.specs.Whole.{HasServed}
use Rattle.smk_laws_refusing.specs.Parts.{AreRuns}

-- The events of a call keep the folder safe: after every prefix of them whatever a crash leaves is sound, and has the sources of the entry; and where no child is
-- left, the folder is sound at the end.
pub record IsSafeCall (o : Outside) (entry : World) (H : Versions) (es : List Event) : Type 0 where
  -- they are runs of the protocol one after another: of a run that heeds the lock first that it is taken, and at the end that it is released
  pub follows_protocol : AreRuns o entry es
  pub throughout : (events rest : List Event) → es ≡ events ++ rest → HasSafeImages o entry (run entry events) H
  pub at_end : (run entry es).children ≡ [] → SoundWorld o (run entry es) H

-- A call in a sound folder is safe, whatever is asked and however it ends; and where it ends without a fault, the folder is sound.
abbrev pub CallIsSafe : Type 0
CallIsSafe =
    (o : Outside) (H : Versions) (request : Request) (told : Option Fault) (w v : World) (old new : Device) (out_old out_new : Sunk) →
    old.world ≡ Some w →
    new.world ≡ Some v →
    ReadsRecords o.read →
    SumsDiffer H →
    SoundWorld o w H →
    HasServed o.act o.read request w told old new out_old out_new →
    (es : List Event) × Follows o.act w es × (v ≡ run w es) × IsSafeCall o w H es × (told ≡ None → SoundWorld o v H)
