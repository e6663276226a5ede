-- The stands of a run between two steps, and the moments of its log.
use Rattle.std.specs.Prelude.{◌≡◌, ℕ, false, List, [], ◌++◌, Contains, nat_eq, Option, Result}
use Rattle.std.specs.List.{IsDistinct}
use Rattle.smk_base.specs.Place.{mark_place}
use Rattle.smk_world.specs.declared.event.Child.{Child}
use Rattle.smk_world.specs.declared.event.Event.{Event}
use Rattle.smk_world.specs.Calls.{started_numbers}
use Rattle.smk_world.specs.Folders.{IsTree}
use Rattle.smk_world.specs.Runs.{Follows}
use Rattle.smk_world.specs.Trees.{Act, Path, Each, IsIn, first}
use Rattle.smk_world.specs.World.{World, IsFormed, numbers, out_paths, run}
use Rattle.smk_pattern.specs.Reading.{or_empty}
use Rattle.smk_plan.specs.States.{Plan, job_path}
use Rattle.smk_store.specs.Trust.{SumsDiffer, Versions}
use Rattle.smk_store.specs.Soundness.{Outside, SoundWorld}
use Rattle.smk_laws_protocol.specs.Protocol.{RunState, Runs}
use Rattle.smk_laws_protocol.specs.Midway.{IsTop, Midway, at_entry}
use Rattle.smk_keep.specs.declared.fault.KeepFault.{KeepFault}
use Rattle.smk_job.specs.Jobs.{Underway}
use Rattle.smk_drive.specs.Moments.{Begun, IsMoment, Moment, Rules, is_gone}
use Rattle.smk_drive_course.specs.Stands.{IsPlanned, Stand, first_stand}
use Rattle.smk_drive_course.specs.Steps.{Deed, GoesByAnswer, HasBegun, HasClosed}
use Rattle.smk_drive_course.specs.Breaks.{HasLeft, Step, Steps}
use Rattle.smk_drive_course.specs.Driven.{IsOpening}
use Rattle.smk_laws_moments.specs.Courses.{HasChildren}
use Rattle.smk_laws_moments.specs.Standing.{IsStandOf}
use Rattle.smk_laws_moments.specs.Staying.{AreDerivedStill, KeepsSources}

-- ## Children that run

-- the job of the child, by its first output
abbrev pub path_of : Underway → Path
path_of going = or_empty (first (out_paths going.recipe))

-- the marks of a job whose child runs stand, or a crash brings them back
abbrev pub AreMarked : World → Type 0
AreMarked w = Each (λ (c : Child). Each (λ p. is_gone (w.nodes (mark_place p)) ≡ false) (out_paths c.recipe)) w.children

-- ## Between two steps

-- What holds at a stand of a run in this world: its children are those that run, each with a number of its own and of another job; their jobs are jobs of the
-- plan in force, with marks; and of jobs of one name just one has begun.
pub record IsGoing (rules : Rules) (entry : World) (s : Stand) (w : World) : Type 0 where
  pub tree : IsTree w
  pub children : HasChildren s w
  pub distinct : IsDistinct nat_eq (numbers w.children)
  pub started : (n : ℕ) → Contains (numbers w.children) n → Contains (started_numbers w.log) n
  pub alone : (a b : Underway) → IsIn s.runs a → IsIn s.runs b → path_of a ≡ path_of b → a ≡ b
  pub derived : AreDerivedStill rules entry s
  pub marked : AreMarked w
  pub one : (a b : Begun) → IsIn s.begun a → IsIn s.begun b → job_path a.job ≡ job_path b.job → a.job ≡ b.job

-- From the stand of a moment on the events of a step lead to the stand of a moment.
abbrev pub LeadsOn : (Rules → World → Stand → World → List Event → List Event → List Deed → Stand → Type 0) → Type 0
LeadsOn P =
    (act : Act) (rules : Rules) (entry : World) (s t : Stand) (before es : List Event) (deeds : List Deed) (m n : Moment) →
    IsFormed entry →
    IsGoing rules entry s (run entry before) →
    KeepsSources rules entry (run entry before) es →
    P rules entry s (run entry before) before es deeds t →
    Follows act (run entry before) es → IsMoment rules entry before m → IsStandOf s m → IsMoment rules entry (before ++ es) n → IsStandOf t n

-- So it is where a job begins;
abbrev pub BeginningIsMoment : Type 0
BeginningIsMoment = LeadsOn HasBegun

-- where one is closed, unless a call fails then;
abbrev pub ClosingIsMoment : Type 0
ClosingIsMoment = LeadsOn (λ rules entry s w before es deeds t. HasClosed rules entry s w before es deeds t × (t.broken ≡ false))

-- where one is left for want of memory;
abbrev pub LeavingIsMoment : Type 0
LeavingIsMoment = LeadsOn HasLeft

-- and with each step in which no call fails.
abbrev pub StepIsMoment : Type 0
StepIsMoment = LeadsOn (λ rules entry s w before es deeds t. Step rules entry s w before es deeds t × (t.broken ≡ false))

-- What holds at a stand holds at that to which a step leads, if the marks stand there.
abbrev pub GoesOn : Type 0
GoesOn =
    (act : Act) (rules : Rules) (entry : World) (s t : Stand) (before es : List Event) (deeds : List Deed) →
    IsFormed entry →
    KeepsSources rules entry (run entry before) es →
    Follows act (run entry before) es →
    AreMarked (run (run entry before) es) →
    IsGoing rules entry s (run entry before) →
    Step rules entry s (run entry before) before es deeds t → IsGoing rules entry t (run (run entry before) es)

-- ## A run

-- after each of these events, and before the first, the jobs whose children run have their marks
abbrev pub KeepsMarks : World → List Event → Type 0
KeepsMarks w es = (front rest : List Event) → es ≡ front ++ rest → AreMarked (run w front)

-- Each stand to which the steps of a run lead is that of the moment of its log, as long as no call has failed, and the folder keeps the sources that the run
-- found and the marks of jobs whose children run.
abbrev pub StandsAreMoments : Type 0
StandsAreMoments =
    (act : Act) (rules : Rules) (entry : World) (plan : Option Plan) (opened : Result (Unit {0}) KeepFault) (opening es : List Event) (start t : Stand)
    (deeds : List Deed) (m : Moment) →
    IsFormed entry →
    IsTree entry →
    entry.children ≡ [] →
    IsPlanned rules (first_stand plan) entry →
    IsOpening rules entry opened opening →
    GoesByAnswer rules entry opened (first_stand plan) entry [] start →
    Steps rules entry start (run entry opening) opening es deeds t →
    t.broken ≡ false →
    Follows act entry (opening ++ es) →
    KeepsSources rules entry entry (opening ++ es) → KeepsMarks entry (opening ++ es) → IsMoment rules entry (opening ++ es) m → IsStandOf t m

-- What holds between the events of a run of the protocol keeps the marks.
abbrev pub MidwayKeepsMarks : Type 0
MidwayKeepsMarks = (o : Outside) (entry : World) (H : Versions) (state : RunState) (w : World) → Midway o entry H state w → AreMarked w

-- So a run of the protocol keeps both, where no two different contents of sources have the same SHA-256.
abbrev pub ProtocolKeeps : Type 0
ProtocolKeeps =
    (o : Outside) (rules : Rules) (entry : World) (H : Versions) (top : ℕ) (es : List Event) (state : RunState) →
    rules.read ≡ o.read →
    SumsDiffer H →
    SoundWorld o entry H →
    IsTop o entry top →
    Follows o.act entry es → Runs o (at_entry o top) entry es state → KeepsSources rules entry entry es × KeepsMarks entry es
