-- Chains of plans at a stand, and what is refused there.
use Rattle.std.specs.Prelude.{ℕ, Bool, List, ◌++◌}
use Rattle.smk_world.specs.declared.event.Event.{Event}
use Rattle.smk_world.specs.World.{World, run}
use Rattle.smk_world.specs.Devices.{AreLooks}
use Rattle.smk_world.specs.Runs.{Follows}
use Rattle.smk_world.specs.Trees.{Act}
use Rattle.smk_flow.specs.declared.job.Job.{Job}
use Rattle.smk_record.specs.declared.record.Stamp.{Stamp}
use Rattle.smk_store.specs.Images.{Image}
use Rattle.smk_chain.specs.Derive.{Listings}
use Rattle.smk_trigger.specs.declared.reason.State.{State}
use Rattle.smk_plan.specs.States.{LastPlan, Plan, Progress}
use Rattle.smk_report.specs.declared.fault.Fault.{Fault}
use Rattle.smk_drive.specs.Moments.{Rules}
use Rattle.smk_drive.specs.Refusals.{ChainRefuses}
use Rattle.smk_drive_course.specs.Stands.{IsClear, Refuses, Stand, lists}
use Rattle.smk_drive_course.specs.Steps.{IsToBegin}

-- A plan that the chain from the listings of its last plan on refuses: the chain refuses one, that or an earlier one.
abbrev pub ChainGoesOn : Type 0
ChainGoesOn =
    (rules : Rules) (image : Image) (progress : Progress) (from : Listings) (plan : Plan) (f : Fault) →
    LastPlan rules.flow image rules.settings progress from plan →
    ChainRefuses rules image progress plan.lists f → (g : Fault) × ChainRefuses rules image progress from g

-- the same stand, its chain beginning with the listings of all plans so far
abbrev pub from_lists : Stand → Stand
from_lists s = record s { from = lists s }

-- A stand that is clear is so too when its chain begins with the listings of all plans so far.
abbrev pub ClearGoesOn : Type 0
ClearGoesOn = (rules : Rules) (s : Stand) (w : World) (events : List Event) → IsClear rules s w events → IsClear rules (from_lists s) w events

-- Looks leave a stand clear.
abbrev pub ClearStays : Type 0
ClearStays =
    (act : Act) (rules : Rules) (s : Stand) (w : World) (events looks : List Event) (failure : Bool) →
    AreLooks failure looks → Follows act w looks → IsClear rules s w events → IsClear rules s (run w looks) (events ++ looks)

-- Where a job is to begin nothing is refused: no plan, nor that job.
abbrev pub NextIsUnrefused : Type 0
NextIsUnrefused =
    (rules : Rules) (entry : World) (s : Stand) (w : World) (events : List Event) (e : Job × State) (made : ℕ) (stamps : List Stamp) (f : Fault) →
    IsToBegin rules entry s w events e made stamps → ¬ Refuses rules entry s w events f
