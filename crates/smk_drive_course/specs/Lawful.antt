-- The law of a run's log: what each event may change, when a job may begin, and what must not be left undone.
use Rattle.std.specs.Prelude.{◌≡◌, ◌⊎◌, ◌≤◌, ◌≢◌, ℕ, Bool, false, ◌&&◌, ◌||◌, not, List, [], ◌∷◌, ◌++◌, filter, IsTrue, Some, None}
use Rattle.std.specs.List.{list_all, flat_map}
use Rattle.smk_base.specs.Place.{record_place}
use Rattle.smk_world.specs.declared.event.Call.{Call}
use Rattle.smk_world.specs.declared.event.Call.TheVariants.{Written, Started, Waited}
use Rattle.smk_world.specs.declared.event.Event.{Event}
use Rattle.smk_world.specs.declared.recipe.Out.{Out}
use Rattle.smk_world.specs.World.{World, run, in_paths, out_paths, is_within, is_above}
use Rattle.smk_world.specs.Calls.{failed, IsFirmlyMarked}
use Rattle.smk_world.specs.Trees.{Path, Each, IsIn, among, outs_of}
use Rattle.smk_flow.specs.declared.job.Job.{Job}
use Rattle.smk_trigger.specs.declared.reason.State.{State}
use Rattle.smk_pick.specs.Rooms.{threads_in}
use Rattle.smk_plan.specs.States.{Plan, is_startable, is_read_now, none_or_one, staged}
use Rattle.smk_drive.specs.Moments.{Rules, Moment, Begun, IsMoment, EachMoment, seen, places, runs, is_closed, is_closed_badly, is_changed, is_rest, begins, begun_after, is_spent_removal, staged_now, progress_of}
use Rattle.smk_drive.specs.Lawful.{running_jobs, first_of, makes_folders, is_wait, is_failed_wait, fit_together, protects, lock_places, goes_on, IsSafeInput, record_for, is_good_end}
use Rattle.smk_drive_course.specs.Moments.{AtEachEvent}

module _ (rules : Rules) where
  -- startable by the plan of the moment; and no child reads what the job makes
  abbrev pub is_free_to_start : Moment → Plan → Job × State → Bool
  is_free_to_start m plan e =
      is_startable (seen rules m.world) rules.settings (progress_of m.world m.begun) plan e
      && not (is_read_now (seen rules m.world) rules.settings (progress_of m.world m.begun) plan e.0)

  -- the jobs that may begin, by the plan in force, and within the room that is left
  abbrev pub may_start : Moment → List (Job × State)
  may_start m =
      flat_map
      (λ (plan : Plan). filter (λ (e : Job × State). is_free_to_start m plan e && fit_together rules (e.0 ∷ running_jobs m)) (staged plan))
      (none_or_one m.plan)

  -- ## What an event may change

  -- the places and logs of jobs that have begun, with this event, and aren't closed
  abbrev pub open_places : World → Moment → Event → List Path
  open_places entry m e =
      flat_map (λ (b : Begun). places b.job ++ b.job.logs) (filter (λ (b : Begun). not (is_closed m.world b)) (begun_after rules entry m e))

  -- those of the jobs of the plan in force
  abbrev pub planned_places : Moment → List Path
  planned_places m = flat_map (λ (k : Job × State). places k.0 ++ k.0.logs) (staged_now m.plan)

  -- 1. An event may change the lock; what stands at or under a place or log of a job that has begun and isn't closed; folders above
  -- the lock, above such a place, or above a place or log of a job of the plan; a spent output, by its removal; a protected output.
  abbrev pub is_allowed : World → Moment → Event → Path → Bool
  is_allowed entry m e q =
      among (lock_places rules) q
      || (is_within q (open_places entry m e)
      || ((makes_folders e.call && is_above q (lock_places rules ++ (planned_places m ++ open_places entry m e)))
      || (is_spent_removal rules m e.call || protects rules m e.call q)))

  abbrev pub ChangesWell : World → Moment → Event → Type 0
  ChangesWell entry m e = (q : Path) → IsTrue (is_changed m.world e q) → IsTrue (is_allowed entry m e q)

  -- ## Beginning and starting

  -- 2. A job begins at a rest; it is the first of those that may start then; no job has failed before, unless the run is to go on; and
  -- no event before was answered Failed.
  pub record MayBegin (m : Moment) (k : Job × State) : Type 0 where
    pub at_rest : IsTrue (is_rest m.world m.begun)
    pub first : first_of (may_start m) ≡ Some k
    pub going : IsTrue (goes_on rules m)
    pub quiet : IsTrue (list_all (λ (d : Event). not (failed d.call)) m.events)

  abbrev pub BeginsWell : Moment → Event → Type 0
  BeginsWell m e = Each (λ (k : Job × State). IsTrue (begins rules m e k.0) → MayBegin m k) (staged_now m.plan)

  -- 3. A child is started of a job that has begun, be it with this event; once, since no child of it runs or has ended; with its recipe,
  -- its logs and the text of its command. Its inputs are safe, and the marks of its outputs firm.
  pub record IsStartOf (m : Moment) (b : Begun) : Type 0 where
    pub unended : b.ended ≡ None
    pub idle : runs m.world b.job ≡ false
    pub has_fields : rules.missing b.job ≡ None
    pub inputs : Each (IsSafeInput rules m) (in_paths b.job.recipe)
    pub marks : Each (IsFirmlyMarked m.world) (out_paths b.job.recipe)

  abbrev pub StartsWell : World → Moment → Event → Call → Type 0
  StartsWell entry m e (Started recipe logs command r) =
      (b : Begun)
      × IsIn (begun_after rules entry m e) b
      × (recipe ≡ b.job.recipe)
      × (logs ≡ b.job.logs)
      × (command ≡ rules.command b.job (threads_in rules.settings.cores b.job.threads))
      × IsStartOf m b
  StartsWell entry m e call = Unit {0}

  -- ## Records and waits

  -- 5. What is written at the record of an output, of a job that has begun, be it with this event, reads as the record that is due:
  -- the job's recipe and serial, the stamps that its inputs had as it began, the members that stand now.
  abbrev pub WritesWell : World → Moment → Event → Call → Type 0
  WritesWell entry m e (Written place bytes r) =
      Each (λ (b : Begun). Each (λ (o : Out). place ≡ record_place o.path → rules.read bytes ≡ Some (record_for rules m b o)) (outs_of b.job.recipe)) (begun_after rules entry m e)
  WritesWell entry m e call = Unit {0}

  -- 6. At each wait a child runs.
  abbrev pub WaitsWell : Moment → Call → Type 0
  WaitsWell m (Waited r) = m.world.children ≢ []
  WaitsWell m call = Unit {0}

  -- Nothing that may start is left, unless a job has failed and the run isn't to go on.
  abbrev pub NothingLeft : Moment → Type 0
  NothingLeft m = IsTrue (goes_on rules m) → may_start m ≡ []

  -- 7. A job is closed badly only where its child ended badly.
  abbrev pub ClosedWithCause : Moment → Type 0
  ClosedWithCause m = Each (λ (b : Begun). IsTrue (is_closed_badly rules m.world b) → is_good_end b.ended ≡ false) m.begun

  -- What holds of each event of a lawful log.
  pub record IsLawfulEvent (entry : World) (m : Moment) (e : Event) : Type 0 where
    pub changes : ChangesWell entry m e
    pub begins : BeginsWell m e
    pub starts : StartsWell entry m e e.call
    pub writes : WritesWell entry m e e.call
    pub waits : WaitsWell m e.call

-- The log of a run that ends with this status is lawful.
pub record Lawful (rules : Rules) (entry : World) (log : List Event) (status : ℕ) : Type 0 where
  pub each : AtEachEvent rules entry log (IsLawfulEvent rules entry)
  -- 4. running children keep to the cores and the bounds
  pub within_room : EachMoment rules entry log (λ m. IsTrue (fit_together rules (running_jobs m)))
  -- 6. after status 0 or 1 nothing that may start was left at a wait or at the end
  pub nothing_left : status ≤ 1 → AtEachEvent rules entry log (λ m e. IsTrue (is_wait e.call) → NothingLeft rules m)
  pub nothing_left_at_the_end : status ≤ 1 → (m : Moment) → IsMoment rules entry log m → NothingLeft rules m
  -- every child was waited for, unless a wait failed
  pub all_waited : ((run entry log).children ≡ []) ⊎ ((e : Event) × IsIn log e × IsTrue (is_failed_wait e.call))
  pub closed_with_cause : EachMoment rules entry log (ClosedWithCause rules)
