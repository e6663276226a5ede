-- The calls of one job, and the other jobs of its plan.
use Rattle.std.specs.Prelude.{◌≡◌, true, false, List, ◌++◌, map, Some, Ok, Err}
use Rattle.smk_world.specs.declared.event.Call.{Call}
use Rattle.smk_world.specs.declared.event.Call.TheVariants.{Looked, ReadFile, ReadFolder, Written, Created, Removed, MadeParents, Settled, Protected, Started, Waited}
use Rattle.smk_world.specs.declared.event.Event.{Event}
use Rattle.smk_world.specs.World.{World, after, owned_by, owned_paths}
use Rattle.smk_world.specs.Trees.{IsIn, Path}
use Rattle.smk_flow.specs.declared.job.Job.{Job}
use Rattle.smk_store.specs.Images.{Image}
use Rattle.smk_trigger.specs.declared.reason.State.{State}
use Rattle.smk_plan.specs.States.{IsPlan, Plan, Progress, job_path, staged}
use Rattle.smk_laws_plan.specs.Current.{IsComplete}
use Rattle.smk_drive.specs.Moments.{Moment, Rules, begins, begun_after, has_begun, places, with_end}

-- the job's places and logs
abbrev pub sites : Job → List Path
sites j = places j ++ j.logs

-- The call is one with which this job begins, ends or is closed: it is at one of its sites, or starts or awaits its child; or it changes nothing.
abbrev pub IsOwnCall : Job → World → Call → Type 0
IsOwnCall j w (Looked p r) = Unit {0}
IsOwnCall j w (ReadFile p limit r) = Unit {0}
IsOwnCall j w (ReadFolder p r) = Unit {0}
IsOwnCall j w (Written p bytes r) = IsIn (sites j) p
IsOwnCall j w (Created p r) = IsIn (sites j) p
IsOwnCall j w (Removed p r) = IsIn (sites j) p
IsOwnCall j w (MadeParents p r) = IsIn (sites j) p
IsOwnCall j w (Settled ps r) = Unit {0}
IsOwnCall j w (Protected p r) = IsIn (sites j) p
IsOwnCall j w (Started recipe logs command r) = (recipe ≡ j.recipe) × (logs ≡ j.logs)
IsOwnCall j w (Waited (Ok ended)) = owned_by ended.number w.children ≡ owned_paths j.recipe j.logs
IsOwnCall j w (Waited (Err e)) = Unit {0}

-- With a call of one job of a plan no other job of it begins.
abbrev pub OwnCallsBeginNone : Type 0
OwnCallsBeginNone =
    (rules : Rules) (image : Image) (progress : Progress) (plan : Plan) (m : Moment) (e : Event) (j : Job) (k : Job × State) →
    IsComplete image →
    IsPlan rules.flow image rules.settings progress plan →
    IsIn plan.jobs j → IsOwnCall j m.world e.call → IsIn (staged plan) k → ¬ (job_path j ≡ job_path k.0) → begins rules m e k.0 ≡ false

-- So, once that job has begun, the same have begun after the call, but for how a child ended.
abbrev pub OwnCallsKeepBegun : Type 0
OwnCallsKeepBegun =
    (rules : Rules) (image : Image) (progress : Progress) (plan : Plan) (entry : World) (m : Moment) (e : Event) (j : Job) →
    IsComplete image →
    IsPlan rules.flow image rules.settings progress plan →
    m.plan ≡ Some plan →
    IsIn plan.jobs j →
    has_begun rules m j ≡ true →
    IsOwnCall j m.world e.call → begun_after rules entry m e ≡ map (with_end rules m.world (after m.world e) e.call) m.begun
