-- The report of a run by what it has done, and by its log.
use Rattle.std.specs.Prelude.{◌≡◌, Bool, true, false, List, [], ◌∷◌, ◌++◌, filter, length, Option, Some, Result, Ok}
use Rattle.smk_base.specs.Place.{mark_place}
use Rattle.smk_world.specs.declared.event.Event.{Event}
use Rattle.smk_world.specs.World.{World, IsFormed, run}
use Rattle.smk_world.specs.Calls.{started_number}
use Rattle.smk_world.specs.Devices.{AreLooks}
use Rattle.smk_world.specs.Runs.{Follows}
use Rattle.smk_world.specs.Trees.{Act, Each, IsIn, Path}
use Rattle.smk_pattern.specs.Shapes.{Text}
use Rattle.smk_flow.specs.declared.job.Job.{Job}
use Rattle.smk_flow.specs.Flows.{Flow}
use Rattle.smk_keep.specs.declared.fault.KeepFault.{KeepFault}
use Rattle.smk_plan.specs.States.{Plan}
use Rattle.smk_report.specs.Lines.{start_line}
use Rattle.smk_report.specs.declared.fault.Fault.{Fault}
use Rattle.smk_drive.specs.Moments.{Begun, IsMoment, Moment, Rules, is_closed_badly, is_closed_well, is_gone}
use Rattle.smk_drive.specs.Reports.{HasLines, named_job}
use Rattle.smk_drive_course.specs.Moments.{started}
use Rattle.smk_drive_course.specs.RunReports.{HasLine, HasLinesBefore, HasStarts, IsFront, IsRunText}
use Rattle.smk_drive_course.specs.declared.ending.End.{End}
use Rattle.smk_drive_course.specs.Stands.{IsPlanned, Stand, first_stand, moment_of}
use Rattle.smk_drive_course.specs.Steps.{Deed, HasHalted}
use Rattle.smk_drive_course.specs.Breaks.{HasFailedToWait, HasLeft, HasNotRead, HasWaited}
use Rattle.smk_drive_course.specs.Driven.{IsOpening, IsRun}
use Rattle.smk_drive_course.specs.Reports.{IsFrontFor, IsReport, IsTold, failures, is_device, is_done, is_started, lines_of, may_lose}
use Rattle.smk_laws_moments.specs.Courses.{started_jobs}
use Rattle.smk_laws_moments.specs.Standing.{IsStandOf}

-- ## The lines of a log

-- The events of a log make one text,
abbrev pub OneText : Type 0
OneText = (rules : Rules) (entry : World) (log : List Event) (a b : Text) → IsFormed entry → HasLines rules entry log a → HasLines rules entry log b → a ≡ b

-- and further events add to it.
abbrev pub LinesGoOn : Type 0
LinesGoOn =
    (rules : Rules) (entry : World) (before es : List Event) (text : Text) →
    IsFormed entry → HasLines rules entry before text → (more : Text) × HasLines rules entry (before ++ es) (text ++ more)

-- As long as no job has begun there are no lines:
abbrev pub NoneBegunNoneTold : Type 0
NoneBegunNoneTold = (rules : Rules) (entry : World) (log : List Event) (m : Moment) → IsMoment rules entry log m → m.begun ≡ [] → HasLines rules entry log []

-- so while a run opens.
abbrev pub OpeningTellsNothing : Type 0
OpeningTellsNothing =
    (act : Act) (rules : Rules) (entry : World) (plan : Option Plan) (opened : Result (Unit {0}) KeepFault) (es : List Event) →
    IsFormed entry → IsPlanned rules (first_stand plan) entry → IsOpening rules entry opened es → Follows act entry es → HasLines rules entry es []

-- Looks make no lines.
abbrev pub LooksTellNothing : Type 0
LooksTellNothing =
    (act : Act) (rules : Rules) (entry : World) (before looks : List Event) (failure : Bool) (text : Text) →
    IsFormed entry →
    AreLooks failure looks → Follows act (run entry before) looks → HasLines rules entry before text → HasLines rules entry (before ++ looks) text

-- no mark of the one world is gone in the other
abbrev pub KeepsEachMark : World → World → Type 0
KeepsEachMark w v = (p : Path) → is_gone (w.nodes (mark_place p)) ≡ false → is_gone (v.nodes (mark_place p)) ≡ false

-- An event that starts no child, and with which no mark goes, makes no line.
abbrev pub KeptMarksTellNothing : Type 0
KeptMarksTellNothing =
    (rules : Rules) (entry : World) (before : List Event) (e : Event) (text : Text) →
    IsFormed entry →
    started_number e.call ≡ [] →
    KeepsEachMark (run entry before) (run entry (before ++ e ∷ [])) → HasLines rules entry before text → HasLines rules entry (before ++ e ∷ []) text

-- ## Steps

-- What such a step does makes just the lines that are told of it.
abbrev pub IsToldOf : (Rules → World → Stand → World → List Event → List Event → List Deed → Stand → Type 0) → Type 0
IsToldOf P =
    (rules : Rules) (entry : World) (s t : Stand) (before es : List Event) (deeds : List Deed) (text : Text) →
    IsFormed entry →
    P rules entry s (run entry before) before es deeds t →
    HasLines rules entry before text → HasLines rules entry (before ++ es) (text ++ lines_of rules.flow deeds)

-- So it is where no job begins any more, or a call fails as sources are read;
abbrev pub HaltingIsTold : Type 0
HaltingIsTold = IsToldOf HasHalted

abbrev pub ReadingIsTold : Type 0
ReadingIsTold = IsToldOf HasNotRead

-- where a job is left for want of memory; and where children are waited for after a call has failed, or a wait fails.
abbrev pub LeavingIsTold : Type 0
LeavingIsTold = IsToldOf HasLeft

abbrev pub WaitingIsTold : Type 0
WaitingIsTold = IsToldOf HasWaited

abbrev pub FailedWaitIsTold : Type 0
FailedWaitIsTold = IsToldOf HasFailedToWait

-- ## Reports of what was done

-- the lines of what was done are those of the log
abbrev pub TellsLog : Rules → World → List Event → List Deed → Type 0
TellsLog rules entry log deeds = HasLines rules entry log (lines_of rules.flow deeds)

-- so many jobs were started, done and failed as at this moment
pub record HasCounts (rules : Rules) (m : Moment) (deeds : List Deed) : Type 0 where
  pub started_are : length (filter is_started deeds) ≡ length (started m)
  pub done_are : length (filter is_done deeds) ≡ length (filter (is_closed_well rules m.world) m.begun)
  pub failed_are : length (failures rules.flow deeds) ≡ length (filter (is_closed_badly rules m.world) m.begun)

-- what is told at the end is so at the last moment of the log
pub record TellsEnd (rules : Rules) (entry : World) (log : List Event) (deeds : List Deed) (end : End) : Type 0 where
  pub moment : Moment
  pub is_last : IsMoment rules entry log moment
  pub counts : HasCounts rules moment deeds
  pub told : IsTold rules deeds moment end

-- What is told of a stand is so at the moment that it is.
abbrev pub ToldOfMoment : Type 0
ToldOfMoment =
    (rules : Rules) (s : Stand) (w : World) (events : List Event) (deeds : List Deed) (end : End) (m : Moment) →
    IsStandOf s m → m.world ≡ w → IsTold rules deeds (moment_of s w events) end → IsTold rules deeds m end

-- Where a run tells what its log makes: the report of one that came to its end is the text of the run;
abbrev pub DoneIsRunText : Type 0
DoneIsRunText =
    (rules : Rules) (entry : World) (log : List Event) (deeds : List Deed) (end : End) (text : Text) →
    TellsLog rules entry log deeds →
    TellsEnd rules entry log deeds end → IsReport rules deeds (Some end) (Ok end) text → IsRunText rules entry log text

-- any report is a front of the lines, or of that text;
abbrev pub ReportIsFront : Type 0
ReportIsFront =
    (rules : Rules) (entry : World) (log : List Event) (deeds : List Deed) (told : Option End) (result : Result End Fault) (text : Text) →
    TellsLog rules entry log deeds →
    ((end : End) → told ≡ Some end → TellsEnd rules entry log deeds end) → IsReport rules deeds told result text → IsFront rules entry log text

-- after a refusal or a fault of the device it has the line of each start;
abbrev pub FrontHasStarts : Type 0
FrontHasStarts =
    (flow : Flow) (deeds : List Deed) (f : Fault) (closing text : Text) (j : Job) →
    may_lose f ≡ false → IsFrontFor flow deeds f closing text → IsIn (started_jobs deeds) j → HasLine text (start_line (named_job flow j))

-- that is of each start of the log, where the jobs that were started are told;
abbrev pub RefusalHasStarts : Type 0
RefusalHasStarts =
    (rules : Rules) (entry : World) (log : List Event) (deeds : List Deed) (f : Fault) (closing text : Text) →
    ((m : Moment) → IsMoment rules entry log m → Each (λ (b : Begun). IsIn (started_jobs deeds) b.job) (started m)) →
    may_lose f ≡ false → IsFrontFor rules.flow deeds f closing text → HasStarts rules entry log text

-- and after a fault of the device it has all lines, so those before the first call that failed.
abbrev pub FaultHasLines : Type 0
FaultHasLines =
    (rules : Rules) (entry : World) (log : List Event) (deeds : List Deed) (f : Fault) (closing text : Text) →
    IsFormed entry →
    TellsLog rules entry log deeds → is_device f ≡ true → IsFrontFor rules.flow deeds f closing text → HasLinesBefore rules entry log text

-- ## Counts of a run

-- Of each job that has begun in a run one start is told.
abbrev pub EachBegunIsStarted : Type 0
EachBegunIsStarted =
    (rules : Rules) (told : Option End) (result : Result End Fault) (deeds : List Deed) (entry : World) (log : List Event) →
    (ran : IsRun rules told result deeds entry log) → length (filter is_started deeds) ≡ length ran.last.begun
