-- Laws of links: what is asked of jobs is true of those that are derived.
use Rattle.std.specs.Prelude.{◌≡◌, List}
use Rattle.smk_world.specs.World.{in_paths}
use Rattle.smk_world.specs.Trees.{Path, Each}
use Rattle.smk_flow.specs.declared.job.Job.{Job}
use Rattle.smk_flow.specs.Flows.{Flow}
use Rattle.smk_choose.specs.Choose.{Sources}
use Rattle.smk_store.specs.Images.{Image, is_source}
use Rattle.smk_chain.specs.declared.jobs.Jobs.{Jobs}
use Rattle.smk_chain.specs.Derive.{Listings, jobs}
use Rattle.smk_chain_walk.specs.Links.{AreLinked}
use Rattle.smk_plan_facts.specs.Facts.{AreMade, TellSources}

-- Linked jobs of targets tell of each source among their inputs, where the sources by which they were derived are those of the image as far as inputs go.
abbrev pub LinkedTellSources : Type 0
LinkedTellSources =
    (flow : Flow) (sources : Sources) (image : Image) (L : Listings) (targets : List Path) (made : Jobs) →
    made.jobs ≡ jobs flow sources L targets →
    AreLinked flow sources L targets made →
    Each (λ (j : Job). Each (λ q. sources.is q ≡ is_source image q) (in_paths j.recipe)) made.jobs → TellSources image made

-- Linked jobs of targets make what they are told to make, whatever the sources are by which they were derived.
abbrev pub LinkedAreMade : Type 0
LinkedAreMade =
    (flow : Flow) (sources : Sources) (L : Listings) (targets : List Path) (made : Jobs) →
    made.jobs ≡ jobs flow sources L targets → AreLinked flow sources L targets made → AreMade made
