-- The folder of a run stays one that can be, and looks leave what the run has made of it.
use Rattle.std.specs.Prelude.{◌≡◌, Bool, List}
use Rattle.smk_world.specs.declared.event.Event.{Event}
use Rattle.smk_world.specs.Devices.{AreLooks}
use Rattle.smk_world.specs.Runs.{Follows}
use Rattle.smk_world.specs.Trees.{Act}
use Rattle.smk_world.specs.World.{World, run}
use Rattle.smk_flow.specs.declared.job.Job.{Job}
use Rattle.smk_drive.specs.Moments.{Rules}
use Rattle.smk_laws_turns.specs.Hubs.{IsHome, IsOurs}

-- Whatever happens in the folder, it is one that can be.
abbrev pub HomeStays : Type 0
HomeStays = (act : Act) (entry w : World) (es : List Event) → Follows act w es → IsHome entry w → IsHome entry (run w es)

-- The same stands at the same places, and the same children run.
pub record IsLookedAt (w v : World) : Type 0 where
  pub names : v.names ≡ w.names
  pub nodes : v.nodes ≡ w.nodes
  pub children : v.children ≡ w.children

-- So it is once the folder was only looked at.
abbrev pub LooksLeaveAll : Type 0
LooksLeaveAll = (act : Act) (failure : Bool) (w : World) (es : List Event) → AreLooks failure es → Follows act w es → IsLookedAt w (run w es)

-- What the run has made of its folder is there still.
abbrev pub LooksLeaveOurs : Type 0
LooksLeaveOurs =
    (act : Act) (failure : Bool) (rules : Rules) (entry w : World) (jobs : List Job) (es : List Event) →
    AreLooks failure es → Follows act w es → IsOurs rules entry jobs w → IsOurs rules entry jobs (run w es)
