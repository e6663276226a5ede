-- The derived jobs can't fail on clean inputs.
use Rattle.std.proofs.Common.{◌≡◌, ◌⊎◌, ℕ, zero, suc, ◌≤◌, Bool, true, false, cond, ◌&&◌, List, [], ◌∷◌, map, flat_map, filter_map, refl, sym, ap, subst, inl, inr, ◌∙◌, arith, Option, Some, None, is_some, true≢false, eqb-true}
use Rattle.std.specs.Prelude.{◌==◌}
use Rattle.std.specs.List.{cons_option}
use Rattle.smk_base.specs.declared.tree.Tree.{Tree}
use Rattle.smk_base.specs.declared.tree.Tree.TheVariants.{File, Folder}
use Rattle.smk_world.specs.declared.recipe.Kind.{Kind}
use Rattle.smk_world.specs.declared.recipe.Kind.TheVariants.{Plain, Folder as FolderKind}
use Rattle.smk_world.specs.declared.recipe.Out.{Out}
use Rattle.smk_world.specs.declared.recipe.Recipe.{Recipe}
use Rattle.smk_world.specs.Calls.{Acted}
use Rattle.smk_world.specs.World.{in_paths}
use Rattle.smk_world.specs.Trees.{Path, all_of, are_good, first, is_good, outs_of, tree_among, tree_given, value_at}
use Rattle.smk_flow.specs.Flows.{Candidate, gathered_folders}
use Rattle.smk_choose.specs.Choose.{Source, Make, choose}
use Rattle.smk_store.specs.Images.{Image, tree_now}
use Rattle.smk_chain.specs.Derive.{Listings, job, recipe, wants, walk, chosen}
use Rattle.smk_chain.specs.Mean.{Setting, listings_of, mean}
use Rattle.smk_report.specs.Lines.{Ending, Good}
use Rattle.smk_drive.specs.Moments.{ending, fault_of, or_good}
use Rattle.smk_laws_plan.proofs.CurrentLists.{In, in_either, in_flat, flat_in, and_left, and_right, none_some}
use Rattle.smk_laws_plan.proofs.CurrentReach.{walk_by}
use Rattle.smk_laws_plan.proofs.CurrentRecipes.{recipe_same, job_same}
use Rattle.smk_laws_plan.proofs.CurrentDepths.{mean_deeper}
use Rattle.smk_laws_plan.proofs.CurrentValues.{mean_make}
use Rattle.smk_laws_plan.proofs.CurrentChosen.{paths_are}
use Rattle.smk_laws_complete.specs.Derived.{AllHaveValues, AreRight, DerivedJobsAreGood, GathersAlone, GoodJobsEndWell, HasListings, IsGoodJob}
use Rattle.smk_laws_complete.proofs.Meanings.{MadeBy, all_more, choice_of, made_by}
use Rattle.smk_laws_complete.proofs.Wanted.{want_meant, listings_meant}
use Rattle.smk_laws_complete.proofs.Walked.{IsWalked, want_walked, walked_derived, derived_walked}

-- ## A derived job makes some path that means something

-- a path that the job makes, by at most so many jobs
pub record Makes (S : Setting) (L : Listings) (targets : List Path) (c : Candidate) (n : ℕ) : Type 0 where
  pub left : ℕ
  pub few : suc left ≤ n
  pub path : Path
  pub tree : Tree
  pub made : MadeBy S left path tree c
  pub walked : IsWalked S L targets (suc left) path

module _ (S : Setting) (L : Listings) (targets : List Path) (alone : GathersAlone S.flow) (right : AreRight S L targets) where
  pub walked_makes :
      (n : ℕ) (p : Path) (t : Tree) (c : Candidate) → n ≤ 200 → mean S n p ≡ Some t → IsWalked S L targets n p →
      In c (walk S.flow S.sources L n p) → Makes S L targets c n
  walked_makes zero p t c few v walked h = absurd h
  walked_makes (suc n) p t c few v walked h = go (choice_of S n p t v) (walked_makes n)
    where
      below : n ≤ 200
      below = omega arith

      empty : choose S.flow S.sources p ≡ Source → In c []
      empty e = subst (λ ch. In c (walk_by S.flow S.sources L n ch)) e h

      last : (d : Candidate) → choose S.flow S.sources p ≡ Make d → In c (d ∷ []) → Makes S L targets c (suc n)
      last d e (inl s) =
          record { left = n; few = omega arith; path = p; tree = t; made = made_by S n p t c (e ∙ ap Make (sym s)) v; walked = walked }
      last d e (inr k) = absurd k

      parts :
          (d : Candidate) → choose S.flow S.sources p ≡ Make d →
          ((q : Path) (s : Tree) (b : Candidate) → n ≤ 200 → mean S n q ≡ Some s → IsWalked S L targets n q → In b (walk S.flow S.sources L n q) → Makes S L targets b n) →
          In c (flat_map (walk S.flow S.sources L n) (wants S.flow L d)) ⊎ In c (d ∷ []) → Makes S L targets c (suc n)
      parts d e ih (inr k) = last d e k
      parts d e ih (inl k) =
          let w = flat_in (walk S.flow S.sources L n) (wants S.flow L d) c k in
          let meant = want_meant S L targets right n below p t d (made_by S n p t d e v) walked alone w.0 w.1 in
          let r = ih w.0 meant.0 c below meant.1 (want_walked S L targets n p d w.0 walked e w.1) w.2 in
          let few = r.few in record { left = r.left; few = omega arith; path = r.path; tree = r.tree; made = r.made; walked = r.walked }

      go :
          (choose S.flow S.sources p ≡ Source) ⊎ ((d : Candidate) × (choose S.flow S.sources p ≡ Make d)) →
          ((q : Path) (s : Tree) (b : Candidate) → n ≤ 200 → mean S n q ≡ Some s → IsWalked S L targets n q → In b (walk S.flow S.sources L n q) → Makes S L targets b n) →
          Makes S L targets c (suc n)
      go (inl e) ih = absurd (empty e)
      go (inr (d, e)) ih =
          parts d e ih
          (in_either c (flat_map (walk S.flow S.sources L n) (wants S.flow L d)) (d ∷ []) (subst (λ ch. In c (walk_by S.flow S.sources L n ch)) e h))

  pub derived_makes : AllHaveValues S targets → (c : Candidate) → In c (chosen S.flow S.sources L targets) → Makes S L targets c 200
  derived_makes values c h =
      let t = derived_walked S.flow S.sources L targets c h in
      let v = values t.0 t.1 in
      walked_makes 200 t.0 v.0 c (let e : 200 ≤ 200 = omega arith in e) v.1
      (λ d k. walked_derived S.flow S.sources L targets d (in_flat (walk S.flow S.sources L 200) targets t.0 d t.1 k)) t.2

-- what is given with status 0 is good
given_good :
    (outs : List Out) (acted : Acted) (p : Path) (t : Tree) → tree_given outs acted p ≡ Some t →
    (acted.status ≡ 0) × (are_good outs acted.outputs ≡ true)
given_good outs acted p t h = go (acted.status == 0 && are_good outs acted.outputs) refl h
  where
    go :
        (b : Bool) → (acted.status == 0 && are_good outs acted.outputs) ≡ b → cond b (tree_among outs acted.outputs p) None ≡ Some t →
        (acted.status ≡ 0) × (are_good outs acted.outputs ≡ true)
    go true e k = (eqb-true acted.status 0 (and_left (acted.status == 0) _ e), and_right (acted.status == 0) _ e)
    go false e k = absurd (none_some None t refl k)

module _
    (S : Setting) (L : Listings) (targets : List Path) (right : AreRight S L targets) (c : Candidate)
    (has : HasListings S L c) (makes : Makes S L targets c 200) where
  abbrev n : ℕ
  n = makes.left

  few : suc n ≤ 200
  few = makes.few

  low : n ≤ 200
  low = let e = few in omega arith

  before : n ≤ 199
  before = let e = few in omega arith

  abbrev M : Listings
  M = listings_of (gathered_folders S.flow c) makes.made.trees

  same : recipe S.flow L c ≡ recipe S.flow M c
  same = recipe_same S.flow c L M (listings_meant S L targets right n low makes.path makes.tree c makes.made makes.walked has)

  same_job : job S.flow L c ≡ job S.flow M c
  same_job = job_same S.flow c L M (listings_meant S L targets right n low makes.path makes.tree c makes.made makes.walked has)

  contents_at : (m : ℕ) → n ≤ m → all_of (map (mean S m) (in_paths (recipe S.flow L c))) ≡ Some makes.made.contents
  contents_at m e =
      ap (λ (r : Recipe). all_of (map (mean S m) (in_paths r))) same
      ∙ all_more (mean S n) (mean S m) (in_paths (recipe S.flow M c)) makes.made.contents (λ p t v. mean_deeper S n m p t e v) makes.made.inputs

  given : (S.act (recipe S.flow L c) makes.made.contents).status ≡ 0 × (are_good (outs_of (recipe S.flow L c)) (S.act (recipe S.flow L c) makes.made.contents).outputs ≡ true)
  given =
      given_good (outs_of (recipe S.flow L c)) (S.act (recipe S.flow L c) makes.made.contents) makes.path makes.tree
      (ap (λ (r : Recipe). value_at S.act r makes.path (Some makes.made.contents)) same ∙ makes.made.value)

  outputs_at : (p : Path) → choose S.flow S.sources p ≡ Make c → mean S 200 p ≡ value_at S.act (recipe S.flow L c) p (Some makes.made.contents)
  outputs_at p e =
      mean_make S 199 p c makes.made.trees e
      (all_more (mean S n) (mean S 199) (gathered_folders S.flow c) makes.made.trees (λ p t v. mean_deeper S n 199 p t before v) makes.made.folders) makes.made.runnable
      ∙ ap (λ (r : Recipe). value_at S.act r p (all_of (map (mean S 199) (in_paths r)))) (sym same)
      ∙ ap (value_at S.act (recipe S.flow L c) p) (contents_at 199 before)

  pub good_job : IsGoodJob S L c
  good_job =
      record {
        command = and_left (is_some c.part.command) _ makes.made.runnable;
        fields = ap S.has_fields same_job ∙ and_left (S.has_fields (job S.flow M c)) _ (and_right (is_some c.part.command) _ makes.made.runnable);
        inputs = makes.made.contents;
        clean = contents_at 200 low;
        status = given.0;
        good = given.1;
        outputs = outputs_at;
      }

pub derived_jobs_are_good : DerivedJobsAreGood
derived_jobs_are_good S L targets alone values right c derived has =
    good_job S L targets right c has (derived_makes S L targets alone right values c derived)

-- ## A good job ends well

no_fault : (p : Path) (k : Kind) (t : Option Tree) → is_good p k t ≡ true → fault_of p k t ≡ None
no_fault p k None h = absurd (true≢false (sym h))
no_fault p Plain (Some (File bytes)) h = refl
no_fault p Plain (Some (Folder entries)) h = absurd (true≢false (sym h))
no_fault p FolderKind (Some (File bytes)) h = absurd (true≢false (sym h))
no_fault p FolderKind (Some (Folder entries)) h = ap (λ b. cond b None (Some (Ending.BadMember p))) h

none_wrong :
    (image : Image) (outs : List Out) → are_good outs (map (tree_now image) (map (λ (o : Out). o.path) outs)) ≡ true →
    filter_map (λ (o : Out). fault_of o.path o.kind (tree_now image o.path)) outs ≡ []
none_wrong image [] h = refl
none_wrong image (o ∷ outs) h =
    ap (λ f. cons_option f (filter_map (λ (o : Out). fault_of o.path o.kind (tree_now image o.path)) outs))
    (no_fault o.path o.kind (tree_now image o.path) (and_left (is_good o.path o.kind (tree_now image o.path)) _ h))
    ∙ none_wrong image outs (and_right (is_good o.path o.kind (tree_now image o.path)) _ h)

pub good_jobs_end_well : GoodJobsEndWell
good_jobs_end_well S L c image good stand =
    let r = recipe S.flow L c in
    let there : are_good (outs_of r) (map (tree_now image) (map (λ (o : Out). o.path) (outs_of r))) ≡ true =
    subst (λ ts. are_good (outs_of r) ts ≡ true) (sym stand ∙ ap (map (tree_now image)) (paths_are r)) good.good in
    subst (λ s. ending image (job S.flow L c) s ≡ Good) (sym good.status)
    (ap (λ (fs : List Ending). or_good (first fs)) (none_wrong image (outs_of r) there))
