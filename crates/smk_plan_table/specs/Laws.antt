-- A law on the links of derived jobs.
use Rattle.std.specs.Prelude.{◌≡◌, List}
use Rattle.smk_world.specs.Trees.{Path, Each}
use Rattle.smk_flow.specs.Flows.{Flow}
use Rattle.smk_choose.specs.Choose.{Sources}
use Rattle.smk_store.specs.Images.{Image, is_source}
use Rattle.smk_chain.specs.Derive.{Listings}
use Rattle.smk_chain.specs.declared.jobs.Jobs.{Jobs}
use Rattle.smk_chain_walk.specs.Links.{AreLinked}
use Rattle.smk_plan_table.specs.Plans.{TellTargets}

-- Jobs whose links are right tell of each target that is a source, where they were derived by sources that are those of the image at the targets.
abbrev pub LinkedTellTargets : Type 0
LinkedTellTargets =
    (flow : Flow) (S : Sources) (L : Listings) (targets : List Path) (made : Jobs) (image : Image) →
    AreLinked flow S L targets made → Each (λ t. S.is t ≡ is_source image t) targets → TellTargets image made targets
