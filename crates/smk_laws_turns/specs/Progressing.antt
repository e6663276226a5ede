-- How far a run is tells the same in whatever order its jobs are named; and what a kept plan has begun and runs follows a run.
use Rattle.std.specs.Prelude.{◌≡◌, ℕ, true, ◌||◌, List, bytes_eq, if◌then◌else◌, Option, Some, None, option_map}
use Rattle.std.specs.List.{find, slice_get}
use Rattle.smk_world.specs.Trees.{Path, among}
use Rattle.smk_flow.specs.declared.job.Job.{Job}
use Rattle.smk_flow.specs.Flows.{Flow}
use Rattle.smk_store.specs.declared.store.Entry.{Entry}
use Rattle.smk_store.specs.Images.{Image}
use Rattle.smk_chain.specs.Derive.{Listings}
use Rattle.smk_trigger.specs.declared.reason.State.{State}
use Rattle.smk_pick.specs.declared.settings.Settings.{Settings}
use Rattle.smk_plan.specs.declared.seen.Sight.{Sight}
use Rattle.smk_plan.specs.States.{LastPlan, Plan, Progress, job_path}
use Rattle.smk_plan_states.specs.Served.{AreApart, outputs_of}
use Rattle.smk_plan_live.specs.declared.base.Base.{Base}
use Rattle.smk_plan_live.specs.declared.phase.Phase.TheVariants.{Closed}
use Rattle.smk_plan_live.specs.Carried.{advanced, begun, has_name}
use Rattle.smk_plan_live.specs.Lives.{IsSound, progress_of}
use Rattle.smk_plan_live.specs.Phases.{has_begun}

-- the state that the job of this name had when it began, where its child runs
abbrev pub state_in : List (Path × State) → Path → Option State
state_in running n = option_map (λ (e : Path × State). e.1) (find (λ (e : Path × State). bytes_eq e.0 n) running)

-- The jobs of the same names have begun, and run with the same states at their beginning.
pub record IsAlike (p q : Progress) : Type 0 where
  pub begun : (n : Path) → among p.begun n ≡ among q.begun n
  pub running : (n : Path) → state_in p.running n ≡ state_in q.running n

-- The job has begun besides, and runs with this state.
pub record IsStarted (j : Job) (state : State) (p new : Progress) : Type 0 where
  pub begun : (n : Path) → among new.begun n ≡ (bytes_eq n (job_path j) || among p.begun n)
  pub running : (n : Path) → state_in new.running n ≡ (if bytes_eq (job_path j) n then Some state else state_in p.running n)

-- The child of the job doesn't run any more.
pub record IsEnded (j : Job) (p new : Progress) : Type 0 where
  pub begun : (n : Path) → among new.begun n ≡ among p.begun n
  pub running : (n : Path) → state_in new.running n ≡ (if bytes_eq (job_path j) n then None else state_in p.running n)

-- The last plan of a chain is the same by two that are alike.
abbrev pub PlansAlike : Type 0
PlansAlike =
    (flow : Flow) (image : Image) (settings : Settings) (p q : Progress) (lists : Listings) (plan : Plan) →
    IsAlike p q → LastPlan flow image settings p lists plan → LastPlan flow image settings q lists plan

-- Once a job has begun, by the run and in the kept plan, both have come as far again.
abbrev pub BeginsAlike : Type 0
BeginsAlike =
    (b : Base) (n : ℕ) (state : State) (j : Job) (p new : Progress) →
    IsSound b →
    AreApart (outputs_of b.jobs.jobs) →
    slice_get b.jobs.jobs n ≡ Some j →
    has_name j ≡ true → IsAlike p (progress_of b) → IsStarted j state p new → IsAlike new (progress_of (begun n state j b))

-- So it is once a job is closed that had begun.
abbrev pub ClosesAlike : Type 0
ClosesAlike =
    (b : Base) (n : ℕ) (j : Job) (entries : List (Option Entry)) (sights : List (Option Sight)) (p new : Progress) →
    IsSound b →
    AreApart (outputs_of b.jobs.jobs) →
    slice_get b.jobs.jobs n ≡ Some j →
    has_name j ≡ true →
    option_map has_begun (slice_get b.phases n) ≡ Some true →
    IsAlike p (progress_of b) → IsEnded j p new → IsAlike new (progress_of (advanced n Closed None entries sights b))
