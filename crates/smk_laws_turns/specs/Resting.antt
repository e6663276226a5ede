-- What the answer of a plan that is kept makes of a stand: the plan was told that a job has begun or was closed, or that an output was removed.
use Rattle.std.specs.Prelude.{◌≡◌, ◌⊎◌, List, [], ◌∷◌, map, zip, Option, Some, None, Result, Ok, Err, IsTrue}
use Rattle.smk_world.specs.declared.event.Event.{Event}
use Rattle.smk_world.specs.World.{World, IsFormed}
use Rattle.smk_flow.specs.Flows.{Flow}
use Rattle.smk_format.specs.Refused.{command_fault}
use Rattle.smk_chain.specs.declared.jobs.Jobs.{Jobs}
use Rattle.smk_chain.specs.Derive.{Derived, derivation}
use Rattle.smk_trigger.specs.declared.reason.State.{State}
use Rattle.smk_trigger.specs.declared.reason.State.TheVariants.{Open, Dirty, Restore, Clean}
use Rattle.smk_pick.specs.declared.settings.Settings.{Settings}
use Rattle.smk_plan.specs.declared.fault.PlanFault.{PlanFault}
use Rattle.smk_plan.specs.States.{IsPlan, Plan}
use Rattle.smk_plan_table.specs.Plans.{fault_in}
use Rattle.smk_plan_live.specs.declared.base.Base.{Base}
use Rattle.smk_plan_live.specs.Live.{LivePlan}
use Rattle.smk_plan_live.specs.declared.phase.Phase.{Phase}
use Rattle.smk_plan_live.specs.declared.phase.Phase.TheVariants.{Waiting, Running, Closed}
use Rattle.smk_plan_live.specs.Lives.{IsAgreed, IsLive, IsRefusedNow, progress_of}
use Rattle.smk_report.specs.declared.fault.Fault.{Fault}
use Rattle.smk_report.specs.declared.fault.Fault.TheVariants as fault
use Rattle.smk_drive.specs.Moments.{Begun, Rules, is_rest, seen}
use Rattle.smk_drive.specs.Moments as moments
use Rattle.smk_drive.specs.Refusals.{refused_of}
use Rattle.smk_drive_pick.specs.Picking.{AreAlike}
use Rattle.smk_drive_course.specs.Stands.{Stand, GoesBy, IsClear, IsReplanned, lists}
use Rattle.smk_drive_first.specs.Opening.{AreRules}
use Rattle.smk_laws_turns.specs.Hubs.{plan_of}

-- ## What is refused of commands

-- a job that has begun isn't to run, so that the text of its command isn't looked at any more
abbrev pub if_begun : State → State
if_begun Open = Open
if_begun (Dirty reasons) = Clean
if_begun Restore = Clean
if_begun Clean = Clean

abbrev pub if_waiting : State → State
if_waiting Open = Open
if_waiting (Dirty reasons) = Restore
if_waiting Restore = Restore
if_waiting Clean = Clean

-- the state by which the command of a job is looked at that has come so far
abbrev pub looked_as : State × Phase → State
looked_as (s, Waiting) = if_waiting s
looked_as (s, Running) = if_begun s
looked_as (s, Closed) = if_begun s

-- those of the jobs of the kept plan
abbrev pub looked_states : LivePlan → List State
looked_states live = map looked_as (zip live.plan.states live.base.phases)

-- the first fault of the commands of the kept plan
abbrev pub refused_command : Flow → Settings → LivePlan → Option Fault
refused_command flow settings live = command_fault flow settings.cores (zip live.base.jobs.jobs (looked_states live))

-- ## What is answered

-- The kept plan, which goes by these settings, was told, and this is what is known and seen since.
pub record IsTold (settings : Settings) (base : Base) (live : LivePlan) : Type 0 where
  pub alive : IsLive live
  pub settings_are : live.settings ≡ settings
  pub base_is : live.base ≡ base

-- This is refused of the plan that has come; of its commands only where nothing else is.
pub data IsRefusalOf (flow : Flow) (settings : Settings) (base : Base) (live : LivePlan) (f : Fault) : Type 0 where
  OfPlan : (refusal : PlanFault) → IsRefusedNow settings base refusal → f ≡ fault_in flow refusal → IsRefusalOf flow settings base live f
  OfCommand : IsTold settings base live → refused_command flow settings live ≡ Some f → IsRefusalOf flow settings base live f

-- What is told of a plan that may grow: nothing is refused of it and of its commands; or this is refused, or memory is wanting.
abbrev pub IsReplyOf : Flow → Settings → Base → LivePlan → Result (Unit {0}) Fault → Type 0
IsReplyOf flow settings base live (Ok u) = IsTold settings base live × (refused_command flow settings live ≡ None)
IsReplyOf flow settings base live (Err f) = (f ≡ fault.OutOfMemory) ⊎ IsRefusalOf flow settings base live f

-- What is answered: the plan was told, nothing is refused of its commands, and no directory has become known; or this is refused, or memory is wanting.
abbrev pub IsAnswerOf : Flow → Settings → Base → LivePlan → Result (Unit {0}) Fault → Type 0
IsAnswerOf flow settings base live (Ok u) = IsTold settings base live × (refused_command flow settings live ≡ None) × (live.plan.known ≡ [])
IsAnswerOf flow settings base live (Err f) = (f ≡ fault.OutOfMemory) ⊎ IsRefusalOf flow settings base live f

abbrev pub fault_of : Result (Unit {0}) Fault → Option Fault
fault_of (Ok u) = None
fault_of (Err f) = Some f

-- ## What is made of it

-- A stand that has come about in this world, where no fault came before: all is at rest, what is to be known and seen from now on agrees with the folder and has
-- come as far, and the jobs are those that the listings of the plan before derive.
pub record IsResting (rules : Rules) (w : World) (u : Stand) (base : Base) : Type 0 where
  pub formed : IsFormed w
  pub unhalted : u.halted ≡ None
  pub at_rest : IsTrue (is_rest w u.begun)
  pub listed : lists u ≡ base.jobs.lists
  pub agrees : IsAgreed (seen rules w) rules.settings base
  pub progressed : AreAlike (moments.progress_of w u.begun) (progress_of base)
  pub derived : derivation rules.flow (seen rules w) base.jobs.lists rules.settings.targets ≡ Derived base.jobs.jobs

-- the same has begun and runs, and the device has failed at both or at none
pub record IsSameRun (u t : Stand) : Type 0 where
  pub begun : t.begun ≡ u.begun
  pub runs : t.runs ≡ u.runs
  pub broken : t.broken ≡ u.broken

-- This is the first refusal of the first plan of the chain from the listings of these jobs.
pub record IsFirstRefused (rules : Rules) (w : World) (begun : List Begun) (jobs : Jobs) (f : Fault) : Type 0 where
  pub plan : Plan
  pub lists : plan.lists ≡ jobs.lists
  pub is : IsPlan rules.flow (seen rules w) rules.settings (moments.progress_of w begun) plan
  pub rest : List Fault
  pub first : refused_of rules (seen rules w) (moments.progress_of w begun) plan ≡ f ∷ rest

-- The plan was made anew, and the run went by it, with this answer: where nothing is refused the kept plan is the one in force, and the stand is clear.
pub record HasGoneBy (rules : Rules) (entry w : World) (u : Stand) (events : List Event) (base : Base) (live : LivePlan) (answer : Result (Unit {0}) Fault) : Type 0 where
  pub next : Stand
  pub to : Stand
  pub replanned : IsReplanned rules u w next
  pub goes_by : GoesBy rules entry next w events to
  pub same : IsSameRun u to
  pub halted : to.halted ≡ fault_of answer
  pub plan : answer ≡ Ok tt → to.plan ≡ Some (plan_of live)
  pub clear : answer ≡ Ok tt → IsClear rules to w events
  pub refused : (f : Fault) → answer ≡ Err f → (f ≡ fault.OutOfMemory) ⊎ IsFirstRefused rules w u.begun base.jobs f

-- So it is with each answer of the kept plan.
abbrev pub RestGoesBy : Type 0
RestGoesBy =
    (rules : Rules) (entry w : World) (u : Stand) (events : List Event) (flow : Flow) (settings : Settings) (base : Base) (live : LivePlan)
    (answer : Result (Unit {0}) Fault) →
    AreRules flow settings rules → IsResting rules w u base → IsAnswerOf flow settings base live answer → HasGoneBy rules entry w u events base live answer

-- The plan was made anew, or stays between two rests.
pub record HasReplanned (rules : Rules) (w : World) (u : Stand) : Type 0 where
  pub next : Stand
  pub replanned : IsReplanned rules u w next
  pub same : IsSameRun u next
  pub halted : next.halted ≡ u.halted

-- So it can be at each stand, be the kept plan told or not: some plan is in force, or none.
abbrev pub AnyIsReplanned : Type 0
AnyIsReplanned = (rules : Rules) (w : World) (u : Stand) → IsFormed w → HasReplanned rules w u
