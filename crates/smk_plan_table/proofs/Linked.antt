-- The links of derived jobs tell of each target that is a source.
use Rattle.std.proofs.Common.{◌≡◌, ℕ, Bool, true, false, cond, ◌||◌, List, [], ◌∷◌, map, Option, Some, None, refl, sym, ap, ◌∙◌, bytes_eq}
use Rattle.std.specs.Prelude.{option_map, is_none, is_some}
use Rattle.std.specs.List.{filter, find, enumerate_from, AllByRecursion}
use Rattle.std.proofs.Math.Bool.{or-true}
use Rattle.smk_base.proofs.Places.{same_place, place_itself}
use Rattle.smk_world.specs.Trees.{Path, Each, among}
use Rattle.smk_flow.specs.Flows.{Flow}
use Rattle.smk_choose.specs.Choose.{Sources, Choice, Source, choose, choice, maker, candidates, viable, leader, lack_of_first}
use Rattle.smk_store.specs.Images.{Image, is_source}
use Rattle.smk_chain.specs.Derive.{Listings, chosen}
use Rattle.smk_chain.specs.declared.jobs.Jobs.{Jobs}
use Rattle.smk_chain.specs.declared.jobs.Maker.{Maker}
use Rattle.smk_chain_walk.specs.Numbers.{number_in}
use Rattle.smk_chain_walk.specs.Links.{AreLinked, maker_told}
use Rattle.smk_plan_facts.specs.Facts.{told_sources}
use Rattle.smk_plan_table.specs.Plans.{TellTargets}

-- the choice for a path, by whether it is a source
abbrev chosen_by : Flow → Sources → Path → Bool → Choice
chosen_by flow S p b =
    elim b as (λ _. Choice) [
      | true ↦ Source
      | false ↦ let vs = viable flow S p in choice (leader flow (enumerate_from 0 vs)) vs (lack_of_first flow S (candidates flow S p))
    ]

-- nothing makes a source
pub source_unmade : (flow : Flow) (S : Sources) (p : Path) → S.is p ≡ true → maker (choose flow S p) ≡ None
source_unmade flow S p e = ap (λ b. maker (chosen_by flow S p b)) e

told_some : (n : Option ℕ) (o : Option (Option ℕ)) → is_some o ≡ true → ((k : Option ℕ) → o ≡ Some k → k ≡ n) → o ≡ Some n
told_some n None h right = absurd cc
told_some n (Some k) h right = ap Some (right k refl)

job_none : (o : Option ℕ) → Some o ≡ Some None → o ≡ None
job_none None e = refl
job_none (Some n) e = absurd cc

abbrev paths_among : Maker → List Maker → Path → Bool → Bool
paths_among m rest t b = among (map (λ (x : Maker). x.path) (cond b (m ∷ rest) rest)) t

-- what is told to be made by none is told of as a source
pub source_told : (makers : List Maker) (t : Path) → maker_told makers t ≡ Some None → among (told_sources makers) t ≡ true
source_told [] t e = absurd cc
source_told (m ∷ makers) t e = go (source_told makers t) (bytes_eq m.path t) refl
  where
    rest : List Maker
    rest = filter (λ (x : Maker). is_none x.job) makers

    later : (b : Bool) → among (map (λ (x : Maker). x.path) rest) t ≡ true → paths_among m rest t b ≡ true
    later true h = ap (λ b. bytes_eq t m.path || b) h ∙ or-true (bytes_eq t m.path)
    later false h = h

    go : (maker_told makers t ≡ Some None → among (told_sources makers) t ≡ true) → (b : Bool) → bytes_eq m.path t ≡ b → among (told_sources (m ∷ makers)) t ≡ true
    go again true same =
        let none : m.job ≡ None =
        job_none m.job (sym (ap (λ b. option_map (λ (x : Maker). x.job) (cond b (Some m) (find (λ (x : Maker). bytes_eq x.path t) makers))) same) ∙ e) in
        ap (λ o. paths_among m rest t (is_none o)) none
        ∙ ap (λ q. bytes_eq t q || among (map (λ (x : Maker). x.path) rest) t) (same_place m.path t same)
        ∙ ap (λ b. b || among (map (λ (x : Maker). x.path) rest) t) (place_itself t)
    go again false other =
        later (is_none m.job)
        (again (sym (ap (λ b. option_map (λ (x : Maker). x.job) (cond b (Some m) (find (λ (x : Maker). bytes_eq x.path t) makers))) other) ∙ e))

module _ (flow : Flow) (S : Sources) (L : Listings) (all : List Path) (made : Jobs) (links : AreLinked flow S L all made) (image : Image) where
  target_told : (t : Path) → is_some (maker_told made.makers t) ≡ true → S.is t ≡ is_source image t → is_source image t ≡ true → among (told_sources made.makers) t ≡ true
  target_told t told same source =
      source_told made.makers t
      (told_some None (maker_told made.makers t) told
      (λ k e. links.right t k e ∙ ap (number_in (chosen flow S L all)) (source_unmade flow S t (same ∙ source))))

  -- each target, where the sources by which the jobs were derived are those of the image at the targets
  pub targets_told : (targets : List Path) → AllByRecursion (λ t. is_some (maker_told made.makers t) ≡ true) targets → Each (λ t. S.is t ≡ is_source image t) targets →
      TellTargets image made targets
  targets_told [] told same = tt
  targets_told (t ∷ targets) told same = (target_told t told.0 same.0, targets_told targets told.1 same.1)

  pub linked_tell_targets : Each (λ t. S.is t ≡ is_source image t) all → TellTargets image made all
  linked_tell_targets same = targets_told all links.all_targets same
