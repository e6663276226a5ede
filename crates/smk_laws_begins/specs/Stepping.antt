-- How the loop of a run goes on: one step of it, and when it is over.
use Rattle.std.specs.Prelude.{◌≡◌, ◌≤◌, ◌+◌, ℕ, Bool, false, not, Option, Some, None, Result}
use Rattle.smk_world.specs.Devices.{Device, Sunk}
use Rattle.smk_world.specs.Trees.{Act}
use Rattle.smk_flow.specs.Flows.{Flow}
use Rattle.smk_pick.specs.declared.settings.Settings.{Settings}
use Rattle.smk_report.specs.declared.fault.Fault.{Fault}
use Rattle.smk_drive_course.specs.declared.ending.End.{End}
use Rattle.smk_laws_turns.specs.Hubs.{Parts}
use Rattle.smk_drive_hub.specs.Turned.{IsBarelyMore}
use Rattle.smk_laws_begins.specs.Gone.{HasGone}
use Rattle.smk_laws_begins.specs.Standing.{taken}
use Rattle.smk_laws_begins.specs.Whole.{HasConcluded, IsThrough}

-- it is over, and a wait failed
abbrev pub is_unwaited : Option Bool → Bool
is_unwaited None = false
is_unwaited (Some waited) = not waited

-- One step of the loop was taken, after which it goes on; or it is over, be it that all children were waited for or not.
pub record HasStepped (act : Act) (flow : Flow) (settings : Settings) (h k : Parts) (over : Option Bool) (a b : Device) (p q : Sunk) : Type 0 where
  pub gone : HasGone act flow settings h k (is_unwaited over) a b p q
  pub counts : IsBarelyMore h.tally k.tally
  pub places : over ≡ None → taken k.places ≤ taken h.places + 1
  pub through : (waited : Bool) → over ≡ Some waited → IsThrough flow settings k (not waited) b

-- so many jobs were started, done or failed at most, and so many children run
pub record IsWithin (limit : ℕ) (h : Parts) : Type 0 where
  pub started : h.tally.started ≤ limit
  pub done : h.tally.done ≤ limit
  pub failed : h.tally.failed ≤ limit
  pub places : taken h.places ≤ limit

-- so many may still be done or failed as the children that run are waited for
pub record IsFor (limit : ℕ) (h : Parts) : Type 0 where
  pub done : h.tally.done + taken h.places ≤ limit
  pub failed : h.tally.failed + taken h.places ≤ limit

-- A run went on until it was over, and was told.
pub record HasRunOn (act : Act) (flow : Flow) (settings : Settings) (h : Parts) (result : Result End Fault) (old new : Device) (out_old out_new : Sunk) : Type 0 where
  pub last : Parts
  pub unwaited : Bool
  pub middle : Sunk
  pub gone : HasGone act flow settings h last unwaited old new out_old middle
  pub through : IsThrough flow settings last unwaited new
  pub concluded : HasConcluded settings.targets last result middle out_new
