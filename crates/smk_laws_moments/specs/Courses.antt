-- What stays over the steps of a run, what its report tells, and the children that run.
use Rattle.std.specs.Prelude.{◌≡◌, ◌≢◌, ◌⊎◌, true, false, List, [], ◌∷◌, ◌++◌, map, Option, Some, None, Result, IsTrue}
use Rattle.std.specs.List.{flat_map, list_any}
use Rattle.smk_world.specs.declared.event.Child.{Child}
use Rattle.smk_world.specs.declared.event.Event.{Event}
use Rattle.smk_world.specs.World.{World, run}
use Rattle.smk_world.specs.Trees.{IsIn}
use Rattle.smk_flow.specs.declared.job.Job.{Job}
use Rattle.smk_report.specs.declared.fault.Fault.{Fault}
use Rattle.smk_job.specs.Jobs.{Underway}
use Rattle.smk_drive.specs.Moments.{Begun, Rules}
use Rattle.smk_drive.specs.Lawful.{is_failed_wait, is_wait}
use Rattle.smk_drive_course.specs.declared.ending.End.{End}
use Rattle.smk_drive_course.specs.Stands.{Stand}
use Rattle.smk_drive_course.specs.Steps.{Closed, Deed, Started}
use Rattle.smk_drive_course.specs.Breaks.{Steps}
use Rattle.smk_drive_course.specs.Reports.{is_started}
use Rattle.smk_drive_course.specs.Driven.{IsRun}

-- P of the steps from one stand to another: in which world and after which events, what happened, and what is told of it
abbrev pub OfSteps : (Rules → Stand → World → List Event → List Deed → Stand → Type 0) → Type 0
OfSteps P =
    (rules : Rules) (entry : World) (s t : Stand) (w : World) (before es : List Event) (deeds : List Deed) →
    Steps rules entry s w before es deeds t → P rules s w es deeds t

-- A fault that has come stays the first one, and no job begins after it.
abbrev pub FirstFaultStays : Type 0
FirstFaultStays =
    OfSteps (λ rules s w es deeds t. (f : Fault) → s.halted ≡ Some f → (t.halted ≡ Some f) × (list_any is_started deeds ≡ false))

-- a call of the device has failed only where a fault has come
abbrev pub IsHaltedIfBroken : Stand → Type 0
IsHaltedIfBroken s = s.broken ≡ true → s.halted ≢ None

-- So it is at each stand, if it is so at the first one.
abbrev pub BrokenIsHalted : Type 0
BrokenIsHalted = OfSteps (λ rules s w es deeds t. IsHaltedIfBroken s → IsHaltedIfBroken t)

abbrev pub started_job : Deed → List Job
started_job (Started j) = j ∷ []
started_job (Closed j e) = []

-- the jobs of which a start is told, in order
abbrev pub started_jobs : List Deed → List Job
started_jobs deeds = flat_map started_job deeds

abbrev pub begun_jobs : Stand → List Job
begun_jobs s = map (λ (b : Begun). b.job) s.begun

-- The starts that are told are those of the jobs that have begun since, in order.
abbrev pub StartsAreTold : Type 0
StartsAreTold = OfSteps (λ rules s w es deeds t. begun_jobs t ≡ begun_jobs s ++ started_jobs deeds)

-- ## Children

abbrev pub child_of : Underway → Child
child_of going = record { number = going.number; recipe = going.recipe; logs = going.logs }

-- the children that run are those of the stand
abbrev pub HasChildren : Stand → World → Type 0
HasChildren s w = w.children ≡ map child_of s.runs

abbrev pub ChildrenAreOfStand : Type 0
ChildrenAreOfStand = OfSteps (λ rules s w es deeds t. HasChildren s w → HasChildren t (run w es))

-- Where no child ran at the entry, none runs at the end of a run, unless a wait failed.
abbrev pub AllAreWaited : Type 0
AllAreWaited =
    (rules : Rules) (told : Option End) (result : Result End Fault) (deeds : List Deed) (entry : World) (log : List Event) →
    IsRun rules told result deeds entry log →
    entry.children ≡ [] → ((run entry log).children ≡ []) ⊎ ((e : Event) × IsIn log e × IsTrue (is_failed_wait e.call))

-- At each wait of such a run a child runs.
abbrev pub WaitsForChildren : Type 0
WaitsForChildren =
    (rules : Rules) (told : Option End) (result : Result End Fault) (deeds : List Deed) (entry : World) (log : List Event) →
    IsRun rules told result deeds entry log →
    entry.children ≡ [] →
    (events : List Event) (e : Event) (rest : List Event) → log ≡ events ++ e ∷ rest → is_wait e.call ≡ true → (run entry events).children ≢ []
