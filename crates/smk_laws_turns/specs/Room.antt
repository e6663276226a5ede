-- What the calls of a run ask for, from where it stands.
use Rattle.std.specs.Prelude.{◌≡◌, List, [], ◌∷◌, ◌++◌, Some, None, IsTrue}
use Rattle.smk_world.specs.declared.event.Change.{Change}
use Rattle.smk_world.specs.declared.event.Ended.{Ended}
use Rattle.smk_world.specs.declared.event.Event.{Event}
use Rattle.smk_world.specs.Calls.{HasOwners, IsUnused}
use Rattle.smk_world.specs.Trees.{Each, IsIn, Path}
use Rattle.smk_world.specs.World.{World, IsFormed, after, in_paths, out_paths}
use Rattle.smk_flow.specs.declared.job.Job.{Job}
use Rattle.smk_store.specs.Unowned.{IsUnownedUnder}
use Rattle.smk_trigger.specs.declared.reason.State.{State}
use Rattle.smk_plan.specs.States.{Plan}
use Rattle.smk_job.specs.Jobs.{LetsBegin, LetsClose, Underway}
use Rattle.smk_run.specs.Closings.{wait_event}
use Rattle.smk_drive.specs.Moments.{Rules, is_spent_now}
use Rattle.smk_drive_outcome.specs.Outcomes.{AreUnowned}
use Rattle.smk_drive_course.specs.Stands.{IsClear, Stand, moment_of}
use Rattle.smk_drive_course.specs.Steps.{Deed, IsNext}
use Rattle.smk_laws_turns.specs.Hubs.{AreSpaced, IsAt, Parts}

-- The plan in force at the stand, by which it is clear, has these jobs.
pub record IsPlannedAs (rules : Rules) (jobs : List Job) (s : Stand) (w : World) (before : List Event) : Type 0 where
  pub clear : IsClear rules s w before
  pub plan : Plan
  pub in_force : s.plan ≡ Some plan
  pub same_jobs : plan.jobs ≡ jobs

-- Since that stand outputs may have been removed, and the plan in force been made anew: the same has begun, and the same children run.
pub record IsSameCrew (s u : Stand) (w v : World) : Type 0 where
  pub begun : u.begun ≡ s.begun
  pub runs : u.runs ≡ s.runs
  pub children : v.children ≡ w.children
  pub formed : IsFormed v

module _ (rules : Rules) (entry : World) (h : Parts) (s : Stand) (w : World) (before : List Event) (deeds : List Deed) where
  -- Running children leave room for the job that is next.
  abbrev pub RoomToBegin : Type 0
  RoomToBegin = (e : Job × State) → IsAt rules entry h s w before deeds → IsNext rules s w before e → LetsBegin w e.0.recipe e.0.logs

  -- Once its child runs beside the others, they are apart.
  abbrev pub RoomBegun : Type 0
  RoomBegun =
      (e : Job × State) (c : Underway) →
      IsAt rules entry h s w before deeds →
      IsNext rules s w before e → c.recipe ≡ e.0.recipe → c.logs ≡ e.0.logs → AreSpaced (s.runs ++ c ∷ [])

  -- What it reads is no running child's, where what is owned is that of one.
  abbrev pub UnownedToRead : Type 0
  UnownedToRead =
      (e : Job × State) →
      IsAt rules entry h s w before deeds → IsNext rules s w before e → HasOwners w → Each (IsUnownedUnder w.nodes) (in_paths e.0.recipe)

  -- Once a child was waited for, the others leave room to close its job.
  abbrev pub RoomToClose : Type 0
  RoomToClose =
      (g : Underway) (ended : Ended) (left : List Change) →
      IsAt rules entry h s w before deeds →
      IsIn s.runs g → ended.number ≡ g.number → LetsClose (after w (wait_event ended left)) g.recipe

  -- While only the others run what is known of its outputs can be looked at: no running child owns it.
  abbrev pub UnownedToLook : Type 0
  UnownedToLook =
      (g : Underway) (ended : Ended) (left : List Change) (v : World) →
      IsAt rules entry h s w before deeds →
      IsIn s.runs g →
      ended.number ≡ g.number → v.children ≡ (after w (wait_event ended left)).children → HasOwners v → AreUnowned v (out_paths g.recipe)

  -- A spent output is unused.
  abbrev pub RoomToSpend : Type 0
  RoomToSpend =
      (p : Path) → IsAt rules entry h s w before deeds → s.halted ≡ None → IsTrue (is_spent_now rules (moment_of s w before) p) → IsUnused w p

  -- So is one that is spent after others were removed.
  abbrev pub RoomToSpendOn : Type 0
  RoomToSpendOn =
      (u : Stand) (v : World) (events : List Event) (p : Path) →
      IsAt rules entry h s w before deeds →
      IsSameCrew s u w v →
      IsPlannedAs rules h.live.base.jobs.jobs u v events → IsTrue (is_spent_now rules (moment_of u v events) p) → IsUnused v p
