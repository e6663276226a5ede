-- What a derivation gives.
use Rattle.std.specs.Prelude.{◌≡◌, List, []}
use Rattle.std.specs.List.{flat_map}
use Rattle.smk_world.specs.Trees.{Path}
use Rattle.smk_flow.specs.Flows.{Flow}
use Rattle.smk_choose.specs.Choose.{Sources}
use Rattle.smk_store.specs.Images.{Image}
use Rattle.smk_store.specs.Loading.{IsStoreOf}
use Rattle.smk_store.specs.Stores.{Known}
use Rattle.smk_chain.specs.declared.fault.ChainFault.{ChainFault}
use Rattle.smk_chain.specs.declared.jobs.Jobs.{Jobs}
use Rattle.smk_chain.specs.Derive.{Listings, jobs, job_refusals, spots}
use Rattle.smk_chain.specs.Told.{TellsFirst}
use Rattle.smk_chain_derive.specs.Clashes.{ListsKnown, clashes_in}
use Rattle.smk_chain_walk.specs.Links.{AreLinked}

module _ (flow : Flow) (sources : Sources) (L : Listings) (store : List Known) (targets : List Path) where
  -- The jobs are those that the targets call for, in plan order, with the links between them, and have the listings by which they were derived.
  pub record IsDerived (made : Jobs) : Type 0 where
    -- nothing is refused of them, in an image with this store
    pub none : (image : Image) → IsStoreOf image store → ListsKnown image → job_refusals flow sources image L targets ≡ []
    pub called : made.jobs ≡ jobs flow sources L targets
    pub links : AreLinked flow sources L targets made
    pub lists : made.lists ≡ L
    -- their outputs and logs don't overlap, and aren't in the way of what the store has
    pub apart : clashes_in store [] (flat_map spots made.jobs) ≡ []

  -- the fault is the first thing that is refused, in an image with this store
  abbrev pub IsFirstRefusal : ChainFault → Type 0
  IsFirstRefusal fault = (image : Image) → IsStoreOf image store → ListsKnown image → TellsFirst flow (job_refusals flow sources image L targets) fault
