-- A run by whose first plan each job is Clean starts nothing.
use Rattle.std.specs.Prelude.{◌≡◌, Bool, true, List, [], ◌∷◌, map, Some, Result, IsSome}
use Rattle.smk_world.specs.declared.event.Event.{Event}
use Rattle.smk_world.specs.World.{World, IsFormed, run}
use Rattle.smk_world.specs.Calls.{started_numbers}
use Rattle.smk_world.specs.Devices.{Device, HasEnded, Sunk}
use Rattle.smk_world.specs.Requests.{HasDone}
use Rattle.smk_world.specs.Requests.Request.{Remove}
use Rattle.smk_world.specs.Runs.{Follows}
use Rattle.smk_world.specs.Trees.{Act, IsIn, Path}
use Rattle.smk_flow.specs.declared.job.Job.{Job}
use Rattle.smk_trigger.specs.declared.reason.State.{State}
use Rattle.smk_trigger.specs.declared.reason.State.TheVariants.{Clean}
use Rattle.smk_plan.specs.States.{LastPlan, Plan, is_spent, nothing_done, staged}
use Rattle.smk_chain.specs.Derive.{Listings}
use Rattle.smk_report.specs.declared.fault.Fault.{Fault}
use Rattle.smk_drive.specs.Moments.{Rules, seen}
use Rattle.smk_drive_course.specs.declared.ending.End.{End}
use Rattle.smk_drive_course.specs.Driven.{HasDriven}
use Rattle.smk_drive_course.specs.Steps.{Deed}

-- each job of the plan is Clean
abbrev pub AllAreClean : Plan → Type 0
AllAreClean plan = plan.states ≡ map (λ (j : Job). Clean) plan.jobs

-- the last plan for these rules, of the folder as it stands, before anything is done
abbrev pub IsFirstPlan : Rules → World → Plan → Type 0
IsFirstPlan rules w plan = LastPlan rules.flow (seen rules w) rules.settings nothing_done [] plan

-- No child was started, and the same ones run.
pub record StartsNone (w : World) (es : List Event) : Type 0 where
  pub unstarted : started_numbers es ≡ []
  pub children : (run w es).children ≡ w.children

-- A run started no child; and where the folder is told at its end, as it is unless a call of the device failed, it tells of no job.
pub record HasStartedNone (act : Act) (deeds : List Deed) (old new : Device) : Type 0 where
  pub failure : Bool
  pub ran : HasEnded act StartsNone old new failure
  pub untold : IsSome new.world → deeds ≡ []

-- So it is of each run, however it ends, where each job is Clean by the last plan of its entry.
abbrev pub DrivenStartsNone : Type 0
DrivenStartsNone =
    (act : Act) (rules : Rules) (result : Result End Fault) (w : World) (plan : Plan) (old new : Device) (out_old out_new : Sunk) →
    old.world ≡ Some w →
    IsFormed w →
    IsFirstPlan rules w plan →
    AllAreClean plan → (h : HasDriven act rules result old new out_old out_new) → HasStartedNone act h.deeds old new

-- For where no job has begun, and each is Clean, a plan stays the last one when an output is removed that is spent by it.
abbrev pub SpentKeepsPlan : Type 0
SpentKeepsPlan =
    (act : Act) (rules : Rules) (w : World) (L : Listings) (plan : Plan) (k : Job × State) (p : Path) (e : Event) →
    IsFormed w →
    LastPlan rules.flow (seen rules w) rules.settings nothing_done L plan →
    AllAreClean plan →
    IsIn (staged plan) k →
    is_spent (seen rules w) rules.settings nothing_done plan k p ≡ true →
    HasDone (Remove p ∷ []) (e ∷ []) →
    Follows act w (e ∷ []) → LastPlan rules.flow (seen rules (run w (e ∷ []))) rules.settings nothing_done plan.lists plan
