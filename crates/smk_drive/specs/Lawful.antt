-- The law of a run's log: what each event may change, when a job may begin, and what must not be left undone.
use Rattle.std.specs.Prelude.{◌≡◌, ◌⊎◌, ◌≤◌, ◌≢◌, ℕ, Bool, true, false, ◌&&◌, ◌||◌, not, List, [], ◌∷◌, ◌++◌, map, filter, nat_le, bytes_eq, if◌then◌else◌, Option, Some, None, Err, IsTrue, Contains, All}
use Rattle.std.specs.List.{list_any, list_all, find, flat_map}
use Rattle.smk_base.specs.Place.{record_place, lock_place}
use Rattle.smk_world.specs.declared.event.Call.{Call}
use Rattle.smk_world.specs.declared.event.Call.TheVariants.{Written, MadeParents, Protected, Started, Waited}
use Rattle.smk_world.specs.declared.event.Event.{Event}
use Rattle.smk_world.specs.declared.recipe.Out.{Out}
use Rattle.smk_world.specs.World.{World, run, in_paths, out_paths, is_within, is_above}
use Rattle.smk_world.specs.Calls.{failed, owned_now, IsFirmlyMarked}
use Rattle.smk_world.specs.Trees.{Path, among, outs_of, kind_in, is_folder_kind}
use Rattle.smk_flow.specs.declared.job.Job.{Job}
use Rattle.smk_record.specs.declared.record.Record.{Record}
use Rattle.smk_record.specs.declared.record.Member.{Member}
use Rattle.smk_store.specs.Images.{is_source, is_file, is_whole, core_at, members_under}
use Rattle.smk_store.specs.Trust.{Eased, Trusted, holder}
use Rattle.smk_trigger.specs.declared.reason.State.{State}
use Rattle.smk_trigger.specs.JobStates.{is_restore}
use Rattle.smk_pick.specs.declared.room.Ask.{Ask}
use Rattle.smk_pick.specs.Rooms.{are_within, threads_in}
use Rattle.smk_plan.specs.States.{Plan, is_startable, none_or_one, staged}
use Rattle.smk_report.specs.Lines.{Ending, Good, Status, NoOutput, WrongKind, BadMember}
use Rattle.smk_drive.specs.Moments.{Rules, Moment, Begun, IsMoment, EachEvent, EachMoment, seen, places, runs, is_closed, is_closed_well, is_closed_badly, is_changed, begins, begun_after, is_spent_removal, staged_now, progress_of}

abbrev pub ask_of : Job → Ask
ask_of j = record { threads = j.threads; amounts = j.amounts; priority = j.priority }

abbrev pub is_good_end : Option Ending → Bool
is_good_end None = true
is_good_end (Some Good) = true
is_good_end (Some (Status n)) = false
is_good_end (Some (NoOutput p)) = false
is_good_end (Some (WrongKind p)) = false
is_good_end (Some (BadMember p)) = false

-- the jobs whose child has ended badly
abbrev pub failures : Moment → List Begun
failures m = filter (λ (b : Begun). not (is_good_end b.ended)) m.begun

-- a job's child has ended badly
abbrev pub has_failed : Moment → Bool
has_failed m = list_any (λ (b : Begun). not (is_good_end b.ended)) m.begun

abbrev pub running_jobs : Moment → List Job
running_jobs m = map (λ (b : Begun). b.job) (filter (λ (b : Begun). runs m.world b.job) m.begun)

-- the first in plan order of those with the greatest priority
abbrev pub first_of : List (Job × State) → Option (Job × State)
first_of es = find (λ (e : Job × State). list_all (λ (k : Job × State). nat_le k.0.priority e.0.priority) es) es

abbrev pub makes_folders : Call → Bool
makes_folders (MadeParents p r) = true
makes_folders c = false

abbrev pub is_wait : Call → Bool
is_wait (Waited r) = true
is_wait c = false

abbrev pub is_failed_wait : Call → Bool
is_failed_wait (Waited (Err e)) = true
is_failed_wait c = false

module _ (rules : Rules) where
  -- these jobs keep to the cores and the bounds together
  abbrev pub fit_together : List Job → Bool
  fit_together js = are_within rules.settings.cores rules.settings.bounds (map ask_of js)

  -- startable by the plan in force, and within the room that is left
  abbrev pub may_start : Moment → List (Job × State)
  may_start m =
      flat_map
      (λ (plan : Plan). filter
      (λ (e : Job × State). is_startable (seen rules m.world) rules.settings (progress_of m.world m.begun) plan e
      && fit_together (e.0 ∷ running_jobs m))
      (staged plan))
      (none_or_one m.plan)

  -- the call protects an output, flagged so, of a job that is closed well
  abbrev pub protects : Moment → Call → Path → Bool
  protects m (Protected p r) q = bytes_eq p q && list_any (λ (b : Begun). is_closed_well rules m.world b && among b.job.guards q) m.begun
  protects m c q = false

  -- the lock, in a run that takes it
  abbrev pub lock_places : List Path
  lock_places = if rules.nolock then [] else lock_place ∷ []

  -- 1. What an event may change: the lock; what stands at or under a place or log of a job that has begun and isn't closed; folders
  -- above the lock or above a place or log of a job of the plan; a spent output, by its removal; a protected output.
  abbrev pub is_allowed : World → Moment → Event → Path → Bool
  is_allowed entry m e q =
      among lock_places q
      || (list_any (λ (b : Begun). not (is_closed m.world b) && is_within q (places b.job ++ b.job.logs)) (begun_after rules entry m e)
      || ((makes_folders e.call
      && is_above q (lock_places ++ flat_map (λ (k : Job × State). places k.0 ++ k.0.logs) (staged_now m.plan)))
      || (is_spent_removal rules m e.call || protects m e.call q)))

  -- no job has failed, unless the run is to go on
  abbrev pub goes_on : Moment → Bool
  goes_on m = not (has_failed m) || rules.settings.keep_going

  -- 2. A job that begins is the first of those that may start; no job has failed before, unless the run is to go on; no event
  -- before was answered Failed.
  abbrev pub MayBegin : Moment → Event → Job × State → Type 0
  MayBegin m e k =
      IsTrue (begins rules m e k.0) →
      (first_of (may_start m) ≡ Some k)
      × IsTrue (goes_on m)
      × IsTrue (list_all (λ (d : Event). not (failed d.call)) m.events)

  abbrev pub restored : Moment → List Path
  restored m =
      flat_map (λ (b : Begun). out_paths b.job.recipe) (filter (λ (b : Begun). runs m.world b.job && is_restore b.state) m.begun)

  -- the marks of jobs that run as a Restore don't count
  abbrev pub eased : Moment → Eased
  eased m p r = IsTrue (among (restored m) p) × (core_at (seen rules m.world) p ≡ Some r)

  -- An input that isn't a source: no running child owns it; and the record that speaks for it has no mark, its output is whole, and
  -- it is trusted. So a member is judged by its directory, which has it as a file.
  pub record IsSafeProduct (m : Moment) (q : Path) : Type 0 where
    pub not_owned : is_within q (owned_now m.world.children) ≡ false
    pub speaker : Path
    pub speaks : holder (seen rules m.world) q ≡ Some speaker
    pub as_file : IsTrue (bytes_eq speaker q || is_file (seen rules m.world) q)
    pub unmarked : (seen rules m.world).marked speaker ≡ false
    pub whole :
        (r : Record) →
        core_at (seen rules m.world) speaker ≡ Some r → IsTrue (is_whole (seen rules m.world) speaker (kind_in r.recipe speaker))
    pub trusted : Trusted (seen rules m.world) (eased m) speaker

  abbrev pub IsSafeInput : Moment → Path → Type 0
  IsSafeInput m q = IsTrue (is_source (seen rules m.world) q) ⊎ IsSafeProduct m q

  -- 3. A start is that of a job that has begun, with its recipe, its logs and the text of its command; its inputs are safe and the
  -- marks of its outputs firm.
  pub record IsStartOf (m : Moment) (b : Begun) (call : Call) : Type 0 where
    pub begun : Contains m.begun b
    pub has_fields : rules.missing b.job ≡ None
    pub inputs : All (IsSafeInput m) (in_paths b.job.recipe)
    pub marks : All (IsFirmlyMarked m.world) (out_paths b.job.recipe)

  abbrev pub StartsWell : Moment → Call → Type 0
  StartsWell m (Started recipe logs command r) =
      (b : Begun)
      × (recipe ≡ b.job.recipe)
      × (logs ≡ b.job.logs)
      × (command ≡ rules.command b.job (threads_in rules.settings.cores b.job.threads))
      × IsStartOf m b (Started recipe logs command r)
  StartsWell m c = Unit {0}

  abbrev pub members_for : Moment → Out → List Member
  members_for m o = if is_folder_kind o.kind then members_under (seen rules m.world) o.path else []

  -- the record of a job's output: with its recipe and serial, the stamps that its inputs had as it began, and the members that stand
  -- there now
  abbrev pub record_for : Moment → Begun → Out → Record
  record_for m b o =
      record {
        format = 2;
        path = o.path;
        made = b.serial;
        recipe = b.job.recipe;
        stamps = flat_map none_or_one b.stamps;
        members = members_for m o;
      }

  -- 5. What is written at the record of an output of a job reads as that job's record.
  abbrev pub WritesWell : Moment → Call → Type 0
  WritesWell m (Written place bytes r) =
      (b : Begun) (o : Out) →
      Contains m.begun b →
      Contains (outs_of b.job.recipe) o → place ≡ record_place o.path → rules.read bytes ≡ Some (record_for m b o)
  WritesWell m c = Unit {0}

  -- 6. At each wait a child runs.
  abbrev pub WaitsWell : Moment → Call → Type 0
  WaitsWell m (Waited r) = m.world.children ≢ []
  WaitsWell m c = Unit {0}

  -- Nothing that may start is left, unless a job has failed and the run isn't to go on.
  abbrev pub NothingLeft : Moment → Type 0
  NothingLeft m = IsTrue (goes_on m) → may_start m ≡ []

  -- 7. A job is closed badly only where its child ended badly.
  abbrev pub ClosedWithCause : Moment → Type 0
  ClosedWithCause m = All (λ (b : Begun). IsTrue (is_closed_badly rules m.world b) → is_good_end b.ended ≡ false) m.begun

-- The log of a run with this status is lawful.
pub record Lawful (rules : Rules) (entry : World) (log : List Event) (status : ℕ) : Type 0 where
  -- each event changes only what it may
  pub changes : EachEvent rules entry log (λ m e. (q : Path) → IsTrue (is_changed m.world e q) → IsTrue (is_allowed rules entry m e q))
  pub begins_well : EachEvent rules entry log (λ m e. All (MayBegin rules m e) (staged_now m.plan))
  pub starts_well : EachEvent rules entry log (λ m e. StartsWell rules m e.call)
  -- 4. running children keep to the cores and the bounds
  pub within_room : EachMoment rules entry log (λ m. IsTrue (fit_together rules (running_jobs m)))
  pub writes_well : EachEvent rules entry log (λ m e. WritesWell rules m e.call)
  pub waits_well : EachEvent rules entry log (λ m e. WaitsWell rules m e.call)
  -- after status 0 or 1 nothing that may start was left at a wait or at the end
  pub nothing_left : status ≤ 1 → EachEvent rules entry log (λ m e. IsTrue (is_wait e.call) → NothingLeft rules m)
  pub nothing_left_at_the_end : status ≤ 1 → (m : Moment) × IsMoment rules entry log m × NothingLeft rules m
  -- every child was waited for, unless a wait failed
  pub all_waited : ((run entry log).children ≡ []) ⊎ ((e : Event) × Contains log e × IsTrue (is_failed_wait e.call))
  pub closed_with_cause : EachMoment rules entry log (ClosedWithCause rules)
