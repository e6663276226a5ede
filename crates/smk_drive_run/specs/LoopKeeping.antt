-- What the steps of a run's loop answer.
use Rattle.std.specs.Prelude.{◌≡◌, ℕ, false, Option, Some, None}
use Rattle.smk_world.specs.Devices.{Device, Sunk}
use Rattle.smk_world.specs.Trees.{Act}
use Rattle.smk_flow.specs.Flows.{Flow}
use Rattle.smk_pick.specs.declared.settings.Settings.{Settings}
use Rattle.smk_laws_turns.specs.Hubs.{Parts}
use Rattle.smk_laws_begins.specs.Begins.{MayTake}
use Rattle.smk_laws_begins.specs.Fitting.{IsPicked}
use Rattle.smk_laws_begins.specs.Gone.{HasGone}
use Rattle.smk_laws_begins.specs.Standing.{HasNoNext, IsOver}

-- ## The job that is next

-- it is the job of this number, or there is none
abbrev pub IsNextOf : Parts → Option ℕ → Type 0
IsNextOf h None = HasNoNext h
IsNextOf h (Some n) = IsPicked h n

-- The job of this number may begin; or no job begins now.
abbrev pub MayNext : Settings → Parts → Option ℕ → Type 0
MayNext settings h None = IsOver settings h
MayNext settings h (Some n) = MayTake settings h n

-- ## Between jobs

-- the same children run, and as many jobs were started, done and failed
pub record KeepsCounts (h k : Parts) : Type 0 where
  pub places : k.places ≡ h.places
  pub tally : k.tally ≡ h.tally

-- No job began, no child was waited for, and nothing was put: at most outputs were removed, or a fault came.
pub record HasStayed (act : Act) (flow : Flow) (settings : Settings) (h k : Parts) (old new : Device) : Type 0 where
  pub gone : (sunk : Sunk) → HasGone act flow settings h k false old new sunk sunk
  pub counts : KeepsCounts h k
