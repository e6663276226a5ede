-- What each step of a run makes of what the run keeps.
use Rattle.std.specs.Prelude.{◌≡◌, ◌≢◌, ◌⊎◌, ◌+◌, true, false, List, [], ◌∷◌, ◌++◌, not, filter, is_none, nat_eq, Option, Some, None, Err}
use Rattle.std.specs.List.{list_all, slice_get}
use Rattle.smk_world.specs.declared.event.Call.TheVariants.{Waited}
use Rattle.smk_world.specs.declared.event.Change.{Change}
use Rattle.smk_world.specs.declared.event.Ended.{Ended}
use Rattle.smk_world.specs.declared.event.Event.{Event}
use Rattle.smk_world.specs.declared.event.Failed.{Failed}
use Rattle.smk_world.specs.World.{World, run}
use Rattle.smk_world.specs.Devices.{AreLooks}
use Rattle.smk_world.specs.Trees.{IsIn, Path, among}
use Rattle.smk_flow.specs.declared.job.Job.{Job}
use Rattle.smk_store.specs.Images.{is_source}
use Rattle.smk_chain.specs.Derive.{Derived, derivation}
use Rattle.smk_plan_facts.specs.Facts.{told_sources}
use Rattle.smk_report.specs.declared.fault.Fault.{Fault}
use Rattle.smk_report.specs.declared.fault.Fault.TheVariants as fault
use Rattle.smk_job.specs.Jobs.{Underway}
use Rattle.smk_run.specs.Closings.{wait_event}
use Rattle.smk_plan_live.specs.Lives.{IsLive}
use Rattle.smk_drive.specs.Moments.{Begun, Rules, seen}
use Rattle.smk_drive.specs.Lawful.{ask_of}
use Rattle.smk_drive_step.specs.declared.children.Child.{Child}
use Rattle.smk_drive_step.specs.Crews.{IsPutFor, goings, halted_by, is_device}
use Rattle.smk_drive_course.specs.Stands.{NoneLeft, Refuses, Stand}
use Rattle.smk_drive_course.specs.Steps.{Deed, HasBegun, HasClosed, HasSpent, Started}
use Rattle.smk_drive_course.specs.Breaks.{HasBrokenOff, HasLeft, HasNotBegun, HasNotRead, HasNotSpent, Step}
use Rattle.smk_laws_moments.specs.Staying.{IsListed}
use Rattle.smk_laws_turns.specs.Hubs.{AreChildrenOf, AreSpaced, IsAt, IsCountOf, IsCrew, IsHome, IsKept, IsOurs, IsRecordable, Parts}

-- ## Children

-- A child that is put into a free place, with a number that none has, runs beside the others.
abbrev pub CrewGrows : Type 0
CrewGrows =
    (were are : List (Option Child)) (runs : List Underway) (c : Child) →
    IsCrew were runs →
    IsPutFor None (Some c) were are →
    ((g : Underway) → IsIn runs g → ¬ (g.number ≡ c.going.number)) → IsCrew are (runs ++ c.going ∷ [])

-- Where a child is taken away the others run.
abbrev pub CrewShrinks : Type 0
CrewShrinks =
    (were are : List (Option Child)) (runs : List Underway) (c : Child) →
    IsCrew were runs →
    IsPutFor (Some c) None were are → IsCrew are (filter (λ (r : Underway). not (nat_eq r.number c.going.number)) runs)

-- No child runs just where all places are free.
abbrev pub CrewIsIdle : Type 0
CrewIsIdle = (places : List (Option Child)) (runs : List Underway) → IsCrew places runs → list_all is_none places ≡ true → runs ≡ []

abbrev pub CrewIsBusy : Type 0
CrewIsBusy = (places : List (Option Child)) (runs : List Underway) → IsCrew places runs → list_all is_none places ≡ false → runs ≢ []

-- ## Steps

-- what is kept once this fault came
abbrev pub faulted : Fault → Parts → Parts
faulted f h = record h { halt = halted_by f h.halt }

-- One step was taken, which did this, and the run stands where it leads, with what it keeps now.
pub record HasLed (rules : Rules) (entry : World) (now : Parts) (s : Stand) (w : World) (before es : List Event) (deeds more : List Deed) : Type 0 where
  pub stand : Stand
  pub step : Step rules entry s w before es more stand
  pub at : IsAt rules entry now stand (run w es) (before ++ es) (deeds ++ more)

module _ (rules : Rules) (entry : World) (h : Parts) (s : Stand) (w : World) (before : List Event) (deeds : List Deed) where
  -- No job begins any more: memory is wanting, the sink failed, or the job that is next is refused.
  abbrev pub HaltLeads : Type 0
  HaltLeads =
      (es : List Event) (f : Fault) →
      IsAt rules entry h s w before deeds →
      ((s.halted ≡ None) × Refuses rules entry s w before f) ⊎ ((f ≡ fault.Output) ⊎ (f ≡ fault.OutOfMemory)) →
      is_device f ≡ false → AreLooks false es → (s.broken ≡ true → es ≡ []) →
      IsHome entry (run w es) →
      (s.broken ≡ false → IsOurs rules entry h.live.base.jobs.jobs (run w es)) → HasLed rules entry (faulted f h) s w before es deeds []

  -- A wait failed, where nothing was left that might have begun.
  abbrev pub FailedWaitLeads : Type 0
  FailedWaitLeads =
      (e : Failed) →
      IsAt rules entry h s w before deeds →
      list_all is_none h.places ≡ false →
      (s.halted ≡ None → NoneLeft rules s w before) →
      IsHome entry (run w (record { call = Waited (Err e); left = [] } ∷ [])) →
      HasLed rules entry (faulted fault.Device h) s w before (record { call = Waited (Err e); left = [] } ∷ []) deeds []

  -- After a call of the device has failed a child was waited for, and taken from its place.
  abbrev pub WaitLeads : Type 0
  WaitLeads =
      (are : List (Option Child)) (c : Child) (ended : Ended) (left : List Change) →
      IsAt rules entry h s w before deeds →
      h.halt.only_waits ≡ true →
      IsPutFor (Some c) None h.places are →
      ended.number ≡ c.going.number →
      IsHome entry (run w (wait_event ended left ∷ [])) →
      HasLed rules entry (record h { places = are }) s w before (wait_event ended left ∷ []) deeds []

  -- A call failed as sources were read for the job that is next, as it was to begin, or as spent outputs were removed.
  abbrev pub ReadingBreaks : Type 0
  ReadingBreaks =
      (es : List Event) (t : Stand) →
      IsAt rules entry h s w before deeds → HasNotRead rules entry s w before es [] t →
      IsHome entry (run w es) → HasLed rules entry (faulted fault.Device h) s w before es deeds []

  abbrev pub BeginningBreaks : Type 0
  BeginningBreaks =
      (es : List Event) (t : Stand) →
      IsAt rules entry h s w before deeds → HasNotBegun rules entry s w before es [] t →
      IsHome entry (run w es) → HasLed rules entry (faulted fault.Device h) s w before es deeds []

  abbrev pub SpendingBreaks : Type 0
  SpendingBreaks =
      (es : List Event) (t : Stand) →
      IsAt rules entry h s w before deeds → HasNotSpent rules entry s w before es [] t →
      IsHome entry (run w es) → HasLed rules entry (faulted fault.Device h) s w before es deeds []

  -- A child was waited for and taken from its place, and there was no memory to close its job.
  abbrev pub LeavingLeads : Type 0
  LeavingLeads =
      (are : List (Option Child)) (c : Child) (es : List Event) (t : Stand) →
      IsAt rules entry h s w before deeds →
      IsPutFor (Some c) None h.places are →
      (left : HasLeft rules entry s w before es [] t) →
      left.going ≡ c.going →
      IsHome entry (run w es) → IsOurs rules entry h.live.base.jobs.jobs (run w es) → HasLed rules entry (faulted fault.OutOfMemory (record h { places = are })) s w before es deeds []

  -- A child was waited for and taken from its place, and a call failed as its job was closed.
  abbrev pub ClosingBreaks : Type 0
  ClosingBreaks =
      (are : List (Option Child)) (c : Child) (es : List Event) (t : Stand) →
      IsAt rules entry h s w before deeds →
      IsPutFor (Some c) None h.places are →
      (off : HasBrokenOff rules entry s w before es [] t) →
      off.going ≡ c.going → IsHome entry (run w es) → HasLed rules entry (faulted fault.Device (record h { places = are })) s w before es deeds []

  -- What is kept once a step has led to this stand tells its faults; and as long as none has come, all that is so then.
  pub record TellsOf (k : Parts) (w1 : World) (events : List Event) (t : Stand) : Type 0 where
    pub live : IsLive k.live
    pub settings : k.live.settings ≡ h.live.settings
    pub jobs : k.live.base.jobs ≡ h.live.base.jobs
    pub home : IsHome entry w1
    pub ours : t.broken ≡ false → IsOurs rules entry h.live.base.jobs.jobs w1
    pub halted : k.halt.fault ≡ t.halted
    pub waits : k.halt.only_waits ≡ t.broken
    pub kept : t.halted ≡ None → IsKept rules entry k t w1 events

  -- A job has begun, and its child was put into a free place and counted.
  abbrev pub BeginningLeads : Type 0
  BeginningLeads =
      (k : Parts) (c : Child) (j : Job) (es : List Event) (t : Stand) →
      IsAt rules entry h s w before deeds →
      (begun : HasBegun rules entry s w before es (Started j ∷ []) t) →
      c.going ≡ begun.going →
      j ≡ begun.job.0 →
      slice_get h.live.base.jobs.jobs c.job ≡ Some j →
      IsListed (seen rules entry) h.live.base.jobs.lists j →
      c.ask ≡ ask_of j →
      ((g : Underway) → IsIn s.runs g → ¬ (g.number ≡ c.going.number)) →
      IsPutFor None (Some c) h.places k.places →
      k.tally ≡ (record h.tally { started = h.tally.started + 1 }) →
      AreSpaced (s.runs ++ c.going ∷ []) → IsRecordable (seen rules entry) c.going →
      TellsOf k (run w es) (before ++ es) t → HasLed rules entry k s w before es deeds (Started j ∷ [])

  -- A child was waited for and taken from its place, and its job closed and counted.
  abbrev pub ClosingLeads : Type 0
  ClosingLeads =
      (k : Parts) (c : Child) (es : List Event) (more : List Deed) (t : Stand) →
      IsAt rules entry h s w before deeds →
      (closed : HasClosed rules entry s w before es more t) →
      closed.going ≡ c.going →
      IsPutFor (Some c) None h.places k.places →
      (t.halted ≡ None → IsCountOf rules.flow (deeds ++ more) k.tally) → TellsOf k (run w es) (before ++ es) t → HasLed rules entry k s w before es deeds more

  -- The same where the plan may have grown besides: what is kept has its own jobs then, of which all is so that is kept of jobs, and its children have their numbers.
  pub record TellsGrown (k : Parts) (w1 : World) (events : List Event) (t : Stand) : Type 0 where
    pub live : IsLive k.live
    pub settings : k.live.settings ≡ rules.settings
    pub derived : derivation rules.flow (seen rules entry) k.live.base.jobs.lists rules.settings.targets ≡ Derived k.live.base.jobs.jobs
    pub home : IsHome entry w1
    pub ours : t.broken ≡ false → IsOurs rules entry k.live.base.jobs.jobs w1
    pub sourced : (p : Path) → among (told_sources k.live.base.jobs.makers) p ≡ true → is_source (seen rules entry) p ≡ true
    pub planned : (b : Begun) → IsIn t.begun b → IsIn k.live.base.jobs.jobs b.job
    pub listed : (b : Begun) → IsIn t.begun b → IsListed (seen rules entry) k.live.base.jobs.lists b.job
    pub theirs : AreChildrenOf k.live.base.jobs.jobs t.begun k.places
    pub halted : k.halt.fault ≡ t.halted
    pub waits : k.halt.only_waits ≡ t.broken
    pub kept : t.halted ≡ None → IsKept rules entry k t w1 events

  -- A child was waited for and taken from its place, its job closed and counted, and the plan has grown.
  abbrev pub GrowingLeads : Type 0
  GrowingLeads =
      (k : Parts) (are : List (Option Child)) (c : Child) (es : List Event) (more : List Deed) (t : Stand) →
      IsAt rules entry h s w before deeds →
      (closed : HasClosed rules entry s w before es more t) →
      closed.going ≡ c.going →
      IsPutFor (Some c) None h.places are →
      goings k.places ≡ goings are →
      (t.halted ≡ None → IsCountOf rules.flow (deeds ++ more) k.tally) → TellsGrown k (run w es) (before ++ es) t → HasLed rules entry k s w before es deeds more

  -- Outputs that are spent were removed.
  abbrev pub SpendingLeads : Type 0
  SpendingLeads =
      (k : Parts) (es : List Event) (t : Stand) →
      IsAt rules entry h s w before deeds →
      HasSpent rules entry s w before es [] t →
      k.places ≡ h.places → k.tally ≡ h.tally → TellsOf k (run w es) (before ++ es) t → HasLed rules entry k s w before es deeds []

-- so it is of each run, wherever it stands
abbrev pub OfParts : (Rules → World → Parts → Stand → World → List Event → List Deed → Type 0) → Type 0
OfParts P =
    (rules : Rules) (entry : World) (h : Parts) (s : Stand) (w : World) (before : List Event) (deeds : List Deed) → P rules entry h s w before deeds
