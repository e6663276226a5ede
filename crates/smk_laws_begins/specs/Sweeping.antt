-- How outputs that are spent are removed one after another, and what a run makes of it.
use Rattle.std.specs.Prelude.{◌≡◌, ◌≢◌, true, false, List, [], ◌∷◌, ◌++◌, Option, Some, None, Result, Ok, Err, IsTrue}
use Rattle.smk_world.specs.declared.event.Event.{Event}
use Rattle.smk_world.specs.Calls.{IsUnused, failed}
use Rattle.smk_world.specs.Requests.{HasDone, request}
use Rattle.smk_world.specs.Requests.Request.{Remove, Settle}
use Rattle.smk_world.specs.Runs.{Follows}
use Rattle.smk_world.specs.Trees.{Act, Path, first}
use Rattle.smk_world.specs.World.{World, run}
use Rattle.smk_flow.specs.Flows.{Flow}
use Rattle.smk_pick.specs.declared.settings.Settings.{Settings}
use Rattle.smk_plan.specs.declared.wholes.Wholes.{Wholes}
use Rattle.smk_plan_live.specs.Live.{LivePlan}
use Rattle.smk_plan_live.specs.Carried.{spent}
use Rattle.smk_plan_live.specs.Lives.{AreWhole, IsLive}
use Rattle.smk_report.specs.declared.fault.Fault.{Fault}
use Rattle.smk_report.specs.declared.fault.Fault.TheVariants as fault
use Rattle.smk_drive.specs.Moments.{Rules, is_spent_now, seen}
use Rattle.smk_drive_pick.specs.Spending.{AreSpentIn}
use Rattle.smk_drive_step.specs.Crews.{is_device}
use Rattle.smk_drive_course.specs.Stands.{GoesBy, IsClear, Stand, broken_by_device, moment_of}
use Rattle.smk_drive_course.specs.Steps.{AreRemoved, Deed, IsAsListed, MaySpend}
use Rattle.smk_drive_first.specs.Opening.{AreRules}
use Rattle.smk_laws_turns.specs.Hubs.{IsAt, Parts}
use Rattle.smk_laws_turns.specs.Turning.{HasLed, faulted}
use Rattle.smk_laws_turns.specs.Resting.{IsAnswerOf}

-- The first output that is spent by the kept plan and may go, if any, where it is told rightly what is whole.
pub record IsFirstSpent (live : LivePlan) (found : Option Path) : Type 0 where
  pub wholes : Wholes
  pub whole : AreWhole live.base wholes
  pub paths : List Path
  pub spent : AreSpentIn live wholes paths
  pub first_one : found ≡ first paths

-- what is kept, with this plan
abbrev pub with_live : LivePlan → Parts → Parts
with_live live h = record h { live = live }

-- ## A sweep

-- These outputs were removed with these events, one after another, and the plan was told of each, so that it is this now; no fault has come.
pub record IsSweptTo
    (rules : Rules) (entry : World) (h : Parts) (s : Stand) (w : World) (before : List Event) (deeds : List Deed) (live : LivePlan)
    (paths : List Path) (es : List Event) : Type 0 where
  pub stand : Stand
  pub removed : AreRemoved rules s w before paths es stand
  pub unhalted : stand.halted ≡ None
  pub still : paths ≡ [] → live ≡ h.live
  pub at : IsAt rules entry (with_live live h) stand (run w es) (before ++ es) deeds

-- The same, but the plan that has come is refused with this fault, or memory is wanting for it, or for what is to be removed next.
pub record IsSweptShort
    (rules : Rules) (entry : World) (h : Parts) (s : Stand) (w : World) (before : List Event) (deeds : List Deed) (live : LivePlan)
    (paths : List Path) (es : List Event) (f : Fault) : Type 0 where
  pub last : Stand
  pub to : Stand
  pub removed : AreRemoved rules s w before paths es last
  pub goes_by : GoesBy rules entry last (run w es) (before ++ es) to
  pub unhalted : last.halted ≡ None
  pub halted : to.halted ≡ Some f
  pub quiet : is_device f ≡ false
  pub lacking : paths ≡ [] → f ≡ fault.OutOfMemory
  pub still : paths ≡ [] → live ≡ h.live
  pub unfaulted : h.halt.fault ≡ None
  pub at : IsAt rules entry (with_live live (faulted f h)) to (run w es) (before ++ es) deeds

-- A call failed as the next one was to be removed.
pub record IsSweptNot
    (rules : Rules) (entry : World) (h : Parts) (s : Stand) (w : World) (before : List Event) (deeds : List Deed) (live : LivePlan) (es : List Event) :
    Type 0 where
  pub paths : List Path
  pub removing : List Event
  pub failing : Event
  pub last : Stand
  pub removed : AreRemoved rules s w before paths removing last
  pub events : es ≡ removing ++ failing ∷ []
  pub fails : failed failing.call ≡ true
  pub path : Path
  pub called : request failing.call ≡ Remove path
  pub clear : IsClear rules last (run w removing) (before ++ removing)
  pub is_spent : IsTrue (is_spent_now rules (moment_of last (run w removing) (before ++ removing)) path)
  pub listed : IsAsListed (seen rules (run w removing)) path
  pub at : IsAt rules entry (with_live live (faulted fault.Device h)) (broken_by_device last) (run w es) (before ++ es) deeds

-- What came of telling the plan that the next one was removed.
abbrev pub IsSwept :
    Rules → World → Parts → Stand → World → List Event → List Deed → LivePlan → List Path → List Event → Result (Unit {0}) Fault → Type 0
IsSwept rules entry h s w before deeds live paths es (Ok u) = IsSweptTo rules entry h s w before deeds live paths es
IsSwept rules entry h s w before deeds live paths es (Err f) = IsSweptShort rules entry h s w before deeds live paths es f

-- ## Laws

-- The kept plan goes on after a removal: it is live, by the same settings and of the same jobs.
pub record IsLaterPlan (live later : LivePlan) : Type 0 where
  pub alive : IsLive later
  pub settings : later.settings ≡ live.settings
  pub jobs : later.base.jobs ≡ live.base.jobs

module _ (rules : Rules) (entry : World) (h : Parts) (s : Stand) (w : World) (before : List Event) (deeds : List Deed) where
  -- nothing has been removed yet
  abbrev pub SweepBegins : Type 0
  SweepBegins = IsAt rules entry h s w before deeds → s.halted ≡ None → IsSweptTo rules entry h s w before deeds h.live [] []

  -- Memory is wanting for what is to be removed next.
  abbrev pub SweepLacks : Type 0
  SweepLacks =
      (live : LivePlan) (paths : List Path) (es : List Event) →
      IsSweptTo rules entry h s w before deeds live paths es → IsSweptShort rules entry h s w before deeds live paths es fault.OutOfMemory

  -- The first one that is spent may be removed: no running child owns or reads it.
  abbrev pub SweepMayGoOn : Type 0
  SweepMayGoOn =
      (live : LivePlan) (paths : List Path) (es : List Event) (p : Path) →
      IsSweptTo rules entry h s w before deeds live paths es → IsFirstSpent live (Some p) → IsUnused (run w es) p

  -- It was removed, and the plan was told of it.
  abbrev pub SweepGoesOn : Type 0
  SweepGoesOn =
      (act : Act) (flow : Flow) (settings : Settings) (live later : LivePlan) (paths : List Path) (es : List Event) (p : Path) (e : Event)
      (answer : Result (Unit {0}) Fault) →
      AreRules flow settings rules →
      IsSweptTo rules entry h s w before deeds live paths es →
      IsFirstSpent live (Some p) →
      HasDone (Remove p ∷ []) (e ∷ []) →
      Follows act (run w es) (e ∷ []) →
      IsLaterPlan live later →
      IsAnswerOf flow settings (spent p live.base) later answer →
      ((f : Fault) → answer ≡ Err f → is_device f ≡ false) →
      IsSwept rules entry h s w before deeds later (paths ++ p ∷ []) (es ++ e ∷ []) answer

  -- The call that was to remove it failed.
  abbrev pub SweepBreaks : Type 0
  SweepBreaks =
      (act : Act) (live : LivePlan) (paths : List Path) (es : List Event) (p : Path) (e : Event) →
      IsSweptTo rules entry h s w before deeds live paths es →
      IsFirstSpent live (Some p) →
      request e.call ≡ Remove p →
      failed e.call ≡ true → Follows act (run w es) (e ∷ []) → IsSweptNot rules entry h s w before deeds live (es ++ e ∷ [])

  -- ## The end of a sweep

  -- The removals were made firm, where nothing more is spent, or a fault came.
  abbrev pub SweepLeads : Type 0
  SweepLeads =
      (act : Act) (live : LivePlan) (paths : List Path) (es settling : List Event) →
      IsSweptTo rules entry h s w before deeds live paths es →
      paths ≢ [] →
      MaySpend rules s w before →
      HasDone (Settle paths ∷ []) settling →
      Follows act (run w es) settling → HasLed rules entry (with_live live h) s w before (es ++ settling) deeds []

  abbrev pub ShortSweepLeads : Type 0
  ShortSweepLeads =
      (act : Act) (live : LivePlan) (paths : List Path) (es settling : List Event) (f : Fault) →
      IsSweptShort rules entry h s w before deeds live paths es f →
      paths ≢ [] →
      MaySpend rules s w before →
      HasDone (Settle paths ∷ []) settling →
      Follows act (run w es) settling → HasLed rules entry (with_live live (faulted f h)) s w before (es ++ settling) deeds []

  -- The call failed that was to make them firm.
  abbrev pub UnsettledLeads : Type 0
  UnsettledLeads =
      (act : Act) (live : LivePlan) (paths : List Path) (es : List Event) (e : Event) (answer : Result (Unit {0}) Fault) →
      IsSwept rules entry h s w before deeds live paths es answer →
      paths ≢ [] →
      MaySpend rules s w before →
      request e.call ≡ Settle paths →
      failed e.call ≡ true →
      Follows act (run w es) (e ∷ []) → HasLed rules entry (with_live live (faulted fault.Device h)) s w before (es ++ e ∷ []) deeds []

  -- A call failed that was to remove one.
  abbrev pub BrokenSweepLeads : Type 0
  BrokenSweepLeads =
      (live : LivePlan) (es : List Event) →
      IsSweptNot rules entry h s w before deeds live es →
      MaySpend rules s w before → HasLed rules entry (with_live live (faulted fault.Device h)) s w before es deeds []

  -- Memory was wanting before anything was removed.
  abbrev pub LackingSweepLeads : Type 0
  LackingSweepLeads =
      (live : LivePlan) (f : Fault) →
      IsAt rules entry h s w before deeds →
      s.halted ≡ None → IsSweptShort rules entry h s w before deeds live [] [] f → HasLed rules entry (with_live live (faulted f h)) s w before [] deeds []
