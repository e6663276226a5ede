-- Where something is refused in a run, and how the run ends then.
use Rattle.std.specs.Prelude.{◌≡◌, ◌⊎◌, ◌||◌, ℕ, Bool, false, not, List, [], ◌∷◌, ◌++◌, Option, Some, None, Result, Err, IsTrue}
use Rattle.smk_world.specs.declared.event.Event.{Event}
use Rattle.smk_world.specs.World.{World, IsFormed, run}
use Rattle.smk_world.specs.Devices.{AreLooks}
use Rattle.smk_world.specs.Runs.{Follows}
use Rattle.smk_world.specs.Trees.{Act}
use Rattle.smk_flow.specs.declared.job.Job.{Job}
use Rattle.smk_record.specs.declared.record.Stamp.{Stamp}
use Rattle.smk_trigger.specs.declared.reason.State.{State}
use Rattle.smk_plan.specs.States.{Plan}
use Rattle.smk_keep.specs.declared.fault.KeepFault.{KeepFault}
use Rattle.smk_report.specs.declared.fault.Fault.{Fault}
use Rattle.smk_drive.specs.Moments.{IsMoment, Moment, Rules, progress_of, seen}
use Rattle.smk_drive.specs.Refusals.{ChainRefuses}
use Rattle.smk_drive_course.specs.Refusals.{MomentRefuses, RunRefuses}
use Rattle.smk_drive_course.specs.declared.ending.End.{End}
use Rattle.smk_drive_course.specs.Stands.{IsClear, IsPlanned, IsReplanned, NoneLeft, Refuses, Stand, first_stand, halted_by, lists}
use Rattle.smk_drive_course.specs.Steps.{Deed, GoesByAnswer, IsToBegin}
use Rattle.smk_drive_course.specs.Breaks.{Step, Steps}
use Rattle.smk_drive_course.specs.Driven.{IsAnswer, IsRun}
use Rattle.smk_drive_course.specs.Reports.{is_device, may_lose}
use Rattle.smk_laws_moments.specs.Standing.{IsStandOf}

-- the fault is a refusal: the device and the sink didn't fail, and memory wasn't wanting
abbrev pub is_refusal : Fault → Bool
is_refusal f = not (may_lose f || is_device f)

-- ## A stand and its moment

-- What is refused at a clear stand is refused at the moment of the log that it is, and the other way round.
abbrev pub ClearRefusesAsMoment : Type 0
ClearRefusesAsMoment =
    (rules : Rules) (entry : World) (s : Stand) (before : List Event) (m : Moment) (f : Fault) →
    IsMoment rules entry before m →
    IsStandOf s m →
    IsClear rules s (run entry before) before →
    (Refuses rules entry s (run entry before) before f → MomentRefuses rules entry m f)
    × (MomentRefuses rules entry m f → Refuses rules entry s (run entry before) before f)

-- Nothing is refused at the moment at which a job is to begin;
abbrev pub BeginsWhereNoneRefuses : Type 0
BeginsWhereNoneRefuses =
    (rules : Rules) (entry : World) (s : Stand) (before : List Event) (m : Moment) (e : Job × State) (made : ℕ) (stamps : List Stamp) (f : Fault) →
    IsMoment rules entry before m →
    IsStandOf s m → IsToBegin rules entry s (run entry before) before e made stamps → ¬ MomentRefuses rules entry m f

-- nor at that of a clear stand at which nothing is left that may start.
abbrev pub NoneLeftNoneRefuses : Type 0
NoneLeftNoneRefuses =
    (rules : Rules) (entry : World) (s : Stand) (before : List Event) (m : Moment) (f : Fault) →
    IsMoment rules entry before m →
    IsStandOf s m → IsClear rules s (run entry before) before → NoneLeft rules s (run entry before) before → ¬ MomentRefuses rules entry m f

-- Where the plan of a stand was made anew after an event at a rest, as when a job has begun or is closed, or an output was removed, what is refused at the
-- stand that comes about is refused at the moment after that event.
abbrev pub AnewRefusesAsMoment : Type 0
AnewRefusesAsMoment =
    (rules : Rules) (entry : World) (before : List Event) (e : Event) (u t : Stand) (m n : Moment) (f : Fault) →
    IsFormed entry →
    IsMoment rules entry before m →
    m.lists ≡ lists u →
    IsReplanned rules u (run entry (before ++ e ∷ [])) t →
    IsMoment rules entry (before ++ e ∷ []) n →
    IsStandOf t n → Refuses rules entry t (run entry (before ++ e ∷ [])) (before ++ e ∷ []) f → MomentRefuses rules entry n f

-- Looks leave what a stand refuses.
abbrev pub LooksKeepRefusals : Type 0
LooksKeepRefusals =
    (act : Act) (rules : Rules) (entry : World) (s : Stand) (w : World) (before looks : List Event) (failure : Bool) (f : Fault) →
    AreLooks failure looks →
    Follows act w looks →
    (Refuses rules entry s w before f → Refuses rules entry s (run w looks) (before ++ looks) f)
    × (Refuses rules entry s (run w looks) (before ++ looks) f → Refuses rules entry s w before f)

-- So nothing is refused either at a moment at which the inputs of the job that is to begin were looked at.
abbrev pub BeginsOnceLooked : Type 0
BeginsOnceLooked =
    (act : Act) (rules : Rules) (entry : World) (s : Stand) (before looks : List Event) (failure : Bool) (m n : Moment) (e : Job × State) (made : ℕ)
    (stamps : List Stamp) (f : Fault) →
    IsFormed entry →
    AreLooks failure looks →
    Follows act (run entry before) looks →
    IsMoment rules entry before m →
    IsStandOf s m →
    IsMoment rules entry (before ++ looks) n → IsToBegin rules entry s (run entry before) before e made stamps → ¬ MomentRefuses rules entry n f

-- No plan was refused at this stand as it came about, after some of these events.
pub record WasClear (rules : Rules) (entry : World) (s : Stand) (events : List Event) : Type 0 where
  pub front : List Event
  pub rest : List Event
  pub split : events ≡ front ++ rest
  pub clear : IsClear rules s (run entry front) front

-- So it is at each stand of a run at which no fault has come.
abbrev pub UnhaltedWasClear : Type 0
UnhaltedWasClear =
    (rules : Rules) (entry : World) (plan : Option Plan) (opened : Result (Unit {0}) KeepFault) (opening es : List Event) (start t : Stand)
    (deeds : List Deed) →
    GoesByAnswer rules entry opened (first_stand plan) entry [] start →
    Steps rules entry start (run entry opening) opening es deeds t → t.halted ≡ None → WasClear rules entry t (opening ++ es)

-- ## How a run ends

-- In a step from this stand this is refused, for which no job begins any more: at the stand that came about with the first events of the step.
pub record StepRefuses (rules : Rules) (entry : World) (w : World) (before es : List Event) (t : Stand) (f : Fault) : Type 0 where
  pub stand : Stand
  pub front : List Event
  pub rest : List Event
  pub split : es ≡ front ++ rest
  pub unhalted : stand.halted ≡ None
  pub refuses : Refuses rules entry stand (run w front) (before ++ front) f
  pub leaves : t ≡ halted_by f stand

-- In these steps one refuses this, the first fault that came.
pub record OneRefuses (rules : Rules) (entry : World) (s : Stand) (w : World) (before es : List Event) (f : Fault) : Type 0 where
  pub from : Stand
  pub to : Stand
  pub front : List Event
  pub events : List Event
  pub rest : List Event
  pub deeds : List Deed
  pub told : List Deed
  pub split : es ≡ front ++ (events ++ rest)
  pub steps : Steps rules entry s w before front deeds from
  pub step : Step rules entry from (run w front) (before ++ front) events told to
  pub refuses : StepRefuses rules entry (run w front) (before ++ front) events to f

-- This is the refusal of a run: the first that is refused at its entry; or in one of its steps.
pub data IsRefusalOf (rules : Rules) (entry : World) (log : List Event) (f : Fault) : Type 0 where
  AtEntry : RunRefuses rules entry log f → IsRefusalOf rules entry log f
  InStep :
      (plan : Option Plan) (opened : Result (Unit {0}) KeepFault) (opening es : List Event) (start : Stand) →
      log ≡ opening ++ es →
      IsPlanned rules (first_stand plan) entry →
      GoesByAnswer rules entry opened (first_stand plan) entry [] start →
      start.halted ≡ None → OneRefuses rules entry start (run entry opening) opening es f → IsRefusalOf rules entry log f

-- A run that ends with a refusal has met it.
abbrev pub RefusalIsMet : Type 0
RefusalIsMet =
    (rules : Rules) (told : Option End) (deeds : List Deed) (entry : World) (log : List Event) (f : Fault) →
    IsRun rules told (Err f) deeds entry log → IsTrue (is_refusal f) → IsRefusalOf rules entry log f

-- A run in which a fault has come ends with the first one.
abbrev pub FirstFaultEnds : Type 0
FirstFaultEnds =
    (rules : Rules) (entry : World) (s t : Stand) (w v : World) (before es log : List Event) (deeds all : List Deed) (told : Option End)
    (result : Result End Fault) (f : Fault) →
    Steps rules entry s w before es deeds t → s.halted ≡ Some f → IsAnswer rules v log all t told result → result ≡ Err f

-- Where the plans of the entry are refused, the run ends with the refusal of its log, or with a fault of the device, the sink or memory.
abbrev pub RefusedAtEntryEnds : Type 0
RefusedAtEntryEnds =
    (rules : Rules) (told : Option End) (result : Result End Fault) (deeds : List Deed) (entry : World) (log : List Event) (f : Fault) →
    IsRun rules told result deeds entry log →
    ChainRefuses rules (seen rules entry) (progress_of entry []) [] f →
    (g : Fault) × (result ≡ Err g) × ((is_refusal g ≡ false) ⊎ RunRefuses rules entry log g)
