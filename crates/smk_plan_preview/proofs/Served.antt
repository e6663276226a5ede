-- Which job makes what, as derived jobs tell it.
use Rattle.std.proofs.Common.{◌≡◌, ◌∙◌, List, [], ◌++◌}
use Rattle.smk_world.specs.World.{in_paths}
use Rattle.smk_world.specs.Trees.{Path, Each}
use Rattle.smk_flow.specs.Flows.{Flow}
use Rattle.smk_flow.specs.declared.job.Job.{Job}
use Rattle.smk_choose.specs.Choose.{Sources}
use Rattle.smk_store.specs.Images.{Image, is_source}
use Rattle.smk_chain.specs.declared.jobs.Jobs.{Jobs}
use Rattle.smk_chain.specs.Derive.{Listings, Derived, derivation, jobs, job_refusals}
use Rattle.smk_chain_derive.specs.Clashes.{ListsKnown}
use Rattle.smk_chain_walk.specs.Links.{AreLinked}
use Rattle.smk_plan.specs.States.{gathers_from}
use Rattle.smk_plan_facts.specs.Facts.{NamesAll}
use Rattle.smk_plan_states.specs.Served.{AreServed}
use Rattle.smk_plan_states.proofs.Linked.{linked_are_served}

pub linked_served : (flow : Flow) (S : Sources) (L : Listings) (targets : List Path) (made : Jobs) (image : Image) → NamesAll image → ListsKnown image → derivation flow image L targets ≡ Derived made.jobs → AreLinked flow S L targets made → made.jobs ≡ jobs flow S L targets
    → job_refusals flow S image L targets ≡ [] → Each (λ t. S.is t ≡ is_source image t) targets → Each (λ (j : Job). Each (λ q. S.is q ≡ is_source image q) (in_paths j.recipe ++ gathers_from j)) made.jobs → AreServed made targets
linked_served flow S L targets made image named listed derived links are none asked read =
    linked_are_served flow S image L targets made (record { names = named; known = λ q is. listed.each q ∙ is }) derived are none links asked read
