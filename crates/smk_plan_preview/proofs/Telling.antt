-- Jobs that are derived, with their links, tell of each source among their inputs.
use Rattle.std.proofs.Common.{◌≡◌, ℕ, true, false, List, [], ◌∷◌, Option, Some, None, refl, sym, ap, subst, ◌∙◌}
use Rattle.std.specs.Prelude.{is_some}
use Rattle.std.specs.List.{AllByRecursion}
use Rattle.smk_plan_table.proofs.Linked.{source_unmade, source_told}
use Rattle.smk_base.proofs.Under.{never_both}
use Rattle.smk_world.specs.World.{in_paths}
use Rattle.smk_world.specs.Trees.{Path, Each, among}
use Rattle.smk_pattern.specs.Shapes.{Text}
use Rattle.smk_flow.specs.declared.job.Job.{Job}
use Rattle.smk_flow.specs.Flows.{Flow, Candidate}
use Rattle.smk_choose.specs.Choose.{Sources, choose, maker}
use Rattle.smk_store.specs.Images.{Image, is_source}
use Rattle.smk_chain.specs.declared.jobs.Jobs.{Jobs}
use Rattle.smk_chain.specs.Derive.{Listings, chosen, job, jobs, recipe, wants}
use Rattle.smk_chain.proofs.Inputs.{inputs_each}
use Rattle.smk_chain_walk.specs.Links.{AreLinked, maker_told, number_for}
use Rattle.smk_chain_walk.specs.Numbers.{number_in}
use Rattle.smk_plan_facts.specs.Facts.{told_sources}
use Rattle.smk_plan_preview.specs.Links.{LinkedTellSources}
use Rattle.smk_plan_facts.proofs.Tests.{each_map, each_two}

-- ## Sources among what is told of

pub no_number : (cs : List Candidate) (o : Option Candidate) → o ≡ None → number_in cs o ≡ None
no_number cs o e = ap (number_in cs) e

pub told_none : (o : Option (Option ℕ)) (number : Option ℕ) → is_some o ≡ true → ((n : Option ℕ) → o ≡ Some n → n ≡ number) → number ≡ None → o ≡ Some None
told_none None number some right none = absurd (never_both false some refl)
told_none (Some n) number some right none = ap Some (right n refl ∙ none)

module _ (flow : Flow) (sources : Sources) (image : Image) (L : Listings) (targets : List Path) (made : Jobs) (links : AreLinked flow sources L targets made) where
  -- a source by which the jobs were derived is told of as one
  abbrev IsDerived : Path → Type 0
  IsDerived q = sources.is q ≡ true → among (told_sources made.makers) q ≡ true

  derived : (w : Text) → is_some (maker_told made.makers w) ≡ true → IsDerived w
  derived w some = λ is.
      source_told made.makers w
      (told_none (maker_told made.makers w) (number_for flow sources L (chosen flow sources L targets) w) some (links.right w)
      (no_number (chosen flow sources L targets) (maker (choose flow sources w)) (source_unmade flow sources w is)))

  each_derived : (ws : List Text) → AllByRecursion (λ (w : Text). is_some (maker_told made.makers w) ≡ true) ws → AllByRecursion IsDerived ws
  each_derived [] h = tt
  each_derived (w ∷ ws) h = (derived w h.0, each_derived ws h.1)

  all_derived : (cs : List Candidate) → AllByRecursion (λ (c : Candidate). AllByRecursion (λ (w : Text). is_some (maker_told made.makers w) ≡ true) (wants flow L c)) cs → Each (λ (c : Candidate). Each IsDerived (in_paths (recipe flow L c))) cs
  all_derived [] h = tt
  all_derived (c ∷ cs) h = (inputs_each flow L c IsDerived (each_derived (wants flow L c) h.0), all_derived cs h.1)

  jobs_derived : made.jobs ≡ jobs flow sources L targets → Each (λ (j : Job). Each IsDerived (in_paths j.recipe)) made.jobs
  jobs_derived are =
      subst (λ (js : List Job). Each (λ (j : Job). Each IsDerived (in_paths j.recipe)) js) (sym are)
      (each_map (λ (j : Job). Each IsDerived (in_paths j.recipe)) (job flow L) (chosen flow sources L targets) (all_derived (chosen flow sources L targets) links.all_wants))

pub linked_tell : LinkedTellSources
linked_tell flow sources image L targets made are links same =
    each_two (λ (j : Job). Each (IsDerived flow sources image L targets made links) (in_paths j.recipe)) (λ (j : Job). Each (λ q. sources.is q ≡ is_source image q) (in_paths j.recipe))
    (λ (j : Job). Each (λ q. is_source image q ≡ true → among (told_sources made.makers) q ≡ true) (in_paths j.recipe))
    (λ j told alike. each_two (IsDerived flow sources image L targets made links) (λ q. sources.is q ≡ is_source image q) (λ q. is_source image q ≡ true → among (told_sources made.makers) q ≡ true)
    (λ q told alike. λ is. told (alike ∙ is)) (in_paths j.recipe) told alike)
    made.jobs (jobs_derived flow sources image L targets made links are) same
