-- Laws of the states of jobs.
use Rattle.std.specs.Prelude.{◌≡◌, List, [], ◌++◌}
use Rattle.smk_world.specs.World.{in_paths}
use Rattle.smk_world.specs.Trees.{Path, Each}
use Rattle.smk_flow.specs.declared.job.Job.{Job}
use Rattle.smk_flow.specs.Flows.{Flow}
use Rattle.smk_choose.specs.Choose.{Sources}
use Rattle.smk_store.specs.Images.{Image, is_source}
use Rattle.smk_chain.specs.declared.jobs.Jobs.{Jobs}
use Rattle.smk_chain.specs.Derive.{Listings, Derived, derivation, jobs, job_refusals}
use Rattle.smk_chain_walk.specs.Links.{AreLinked}
use Rattle.smk_plan.specs.States.{gathers_from}
use Rattle.smk_laws_plan.specs.Current.{IsComplete}
use Rattle.smk_plan_states.specs.Served.{AreServed}

-- Jobs that are derived and linked serve their targets. They may be derived by what is told of sources, where that is true of the targets and
-- of what the jobs read and gather from.
abbrev pub LinkedAreServed : Type 0
LinkedAreServed =
    (flow : Flow) (sources : Sources) (image : Image) (L : Listings) (targets : List Path) (made : Jobs) →
    IsComplete image →
    derivation flow image L targets ≡ Derived made.jobs →
    made.jobs ≡ jobs flow sources L targets →
    job_refusals flow sources image L targets ≡ [] →
    AreLinked flow sources L targets made →
    Each (λ t. sources.is t ≡ is_source image t) targets →
    Each (λ (j : Job). Each (λ q. sources.is q ≡ is_source image q) (in_paths j.recipe ++ gathers_from j)) made.jobs → AreServed made targets
