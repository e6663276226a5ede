-- The jobs whose children run, and the plan in force: they stay jobs of it, with the same inputs.
use Rattle.std.specs.Prelude.{◌≡◌, ◌≢◌, ◌⊎◌, true, List, ◌++◌, Option, Some, None, Result}
use Rattle.smk_world.specs.declared.event.Event.{Event}
use Rattle.smk_world.specs.World.{World, IsFormed, run}
use Rattle.smk_world.specs.Trees.{Path, IsIn, Each}
use Rattle.smk_flow.specs.declared.job.Job.{Job}
use Rattle.smk_flow.specs.Flows.{Flow}
use Rattle.smk_store.specs.Images.{Image, is_source}
use Rattle.smk_store.specs.Trust.{Versions}
use Rattle.smk_store.specs.Soundness.{Outside, SameSources}
use Rattle.smk_chain.specs.Derive.{Listings, Derived, derivation, jobs, listing, sources_of}
use Rattle.smk_pick.specs.declared.settings.Settings.{Settings}
use Rattle.smk_plan.specs.States.{Plan, Progress, IsPlan, LastPlan, gathers_from}
use Rattle.smk_laws_plan.specs.Current.{IsComplete}
use Rattle.smk_laws_protocol.specs.Protocol.{RunState}
use Rattle.smk_laws_protocol.specs.Midway.{Midway}
use Rattle.smk_job.specs.Jobs.{Underway}
use Rattle.smk_keep.specs.declared.fault.KeepFault.{KeepFault}
use Rattle.smk_drive.specs.Moments.{Begun, Rules, seen}
use Rattle.smk_drive_course.specs.Stands.{Stand, IsPlanned, IsReplanned, first_stand, lists}
use Rattle.smk_drive_course.specs.Steps.{Deed, GoesByAnswer}
use Rattle.smk_drive_course.specs.Breaks.{Step, Steps}
use Rattle.smk_laws_moments.specs.Opened.{AreStillPlanned}

-- ## Derivations

-- Two derivations of complete images with the same sources, with the same listings and targets, give the same jobs.
abbrev pub DerivationStays : Type 0
DerivationStays =
    (flow : Flow) (a b : Image) (L : Listings) (targets : List Path) (first second : List Job) →
    IsComplete a →
    IsComplete b →
    SameSources a b → derivation flow a L targets ≡ Derived first → derivation flow b L targets ≡ Derived second → first ≡ second

-- each directory that the job gathers from is a source, or has a listing
abbrev pub IsListed : Image → Listings → Job → Type 0
IsListed image L j = Each (λ d. (is_source image d ≡ true) ⊎ (listing L d ≢ None)) (gathers_from j)

-- Along a chain of plans a job stays as it is, with its inputs, where it is derived with the listings from which the chain begins, and listed by them.
abbrev pub ListedJobsStay : Type 0
ListedJobsStay =
    (flow : Flow) (image : Image) (settings : Settings) (progress : Progress) (L : Listings) (plan : Plan) (j : Job) →
    IsComplete image →
    LastPlan flow image settings progress L plan →
    IsIn (jobs flow (sources_of image) L settings.targets) j → IsListed image L j → IsIn plan.jobs j × IsListed image plan.lists j

-- ## Stands of a run

module _ (rules : Rules) (entry : World) where
  -- the jobs that these listings derive from the sources that the run found
  abbrev pub derived_by : Listings → List Job
  derived_by L = jobs rules.flow (sources_of (seen rules entry)) L rules.settings.targets

  -- The job of the child that runs is derived, with its inputs, with the listings of all plans so far, and listed by them.
  pub record IsDerivedStill (s : Stand) (going : Underway) : Type 0 where
    pub begun : Begun
    pub has_begun : IsIn s.begun begun
    pub recipe : begun.job.recipe ≡ going.recipe
    pub logs : begun.job.logs ≡ going.logs
    pub derived : IsIn (derived_by (lists s)) begun.job
    pub listed : IsListed (seen rules entry) (lists s) begun.job

  -- the plan is one of a folder with the sources that the run found
  pub record IsPlanOfSources (plan : Plan) : Type 0 where
    pub image : Image
    pub progress : Progress
    pub complete : IsComplete image
    pub sources : SameSources (seen rules entry) image
    pub is_plan : IsPlan rules.flow image rules.settings progress plan

  -- the job of each child that runs is so derived, and the plan in force, if any, is one of such a folder
  pub record AreDerivedStill (s : Stand) : Type 0 where
    pub running : Each (IsDerivedStill s) s.runs
    pub planned : (plan : Plan) → s.plan ≡ Some plan → IsPlanOfSources plan

  -- after each of these events, and before the first, the folder reads with the sources that the run found
  abbrev pub KeepsSources : World → List Event → Type 0
  KeepsSources w es = (front rest : List Event) → es ≡ front ++ rest → SameSources (seen rules entry) (seen rules (run w front))

-- So it is at the first stand;
abbrev pub FirstIsDerived : Type 0
FirstIsDerived =
    (rules : Rules) (entry : World) (plan : Option Plan) →
    IsFormed entry → IsPlanned rules (first_stand plan) entry → AreDerivedStill rules entry (first_stand plan)

-- at the one at which a run starts, be a plan refused there or not;
abbrev pub StartIsDerived : Type 0
StartIsDerived =
    (rules : Rules) (entry w : World) (plan : Option Plan) (answer : Result (Unit {0}) KeepFault) (events : List Event) (start : Stand) →
    IsFormed entry →
    IsPlanned rules (first_stand plan) entry →
    GoesByAnswer rules entry answer (first_stand plan) w events start → AreDerivedStill rules entry start

-- and, as long as the sources stay, after each step,
abbrev pub StepStaysDerived : Type 0
StepStaysDerived =
    (rules : Rules) (entry : World) (s t : Stand) (before es : List Event) (deeds : List Deed) →
    IsFormed entry →
    KeepsSources rules entry (run entry before) es →
    AreDerivedStill rules entry s → Step rules entry s (run entry before) before es deeds t → AreDerivedStill rules entry t

-- where the plan is made anew within one,
abbrev pub ReplanningStaysDerived : Type 0
ReplanningStaysDerived =
    (rules : Rules) (entry w : World) (s t : Stand) →
    IsFormed entry →
    IsFormed w →
    SameSources (seen rules entry) (seen rules w) →
    IsReplanned rules s w t → AreDerivedStill rules entry s → AreDerivedStill rules entry t

-- and after any steps.
abbrev pub StaysDerived : Type 0
StaysDerived =
    (rules : Rules) (entry : World) (s t : Stand) (before es : List Event) (deeds : List Deed) →
    IsFormed entry →
    KeepsSources rules entry (run entry before) es →
    AreDerivedStill rules entry s → Steps rules entry s (run entry before) before es deeds t → AreDerivedStill rules entry t

-- Then each job whose child runs is a job of the plan in force, where there is one.
abbrev pub DerivedArePlanned : Type 0
DerivedArePlanned =
    (rules : Rules) (entry : World) (s : Stand) → IsFormed entry → AreDerivedStill rules entry s → AreStillPlanned s

-- What holds between the events of a run of the protocol keeps the sources.
abbrev pub MidwayKeepsSources : Type 0
MidwayKeepsSources =
    (o : Outside) (rules : Rules) (entry : World) (H : Versions) (state : RunState) (w : World) →
    rules.read ≡ o.read → Midway o entry H state w → SameSources (seen rules entry) (seen rules w)
