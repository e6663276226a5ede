-- What the walk from a path comes to is derived.
use Rattle.std.proofs.Common.{◌≡◌, ◌⊎◌, ℕ, zero, suc, true, List, [], ◌∷◌, flat_map, refl, sym, subst, inl, inr, Some, eqb, eqb-true, eq-eqb}
use lib.Pointwise.{pointwise}
use Rattle.smk_base.specs.declared.tree.Pair.{Pair}
use Rattle.smk_base.specs.declared.tree.Tree.{Tree}
use Rattle.smk_base.proofs.Places.{place_itself}
use Rattle.smk_world.specs.Trees.{Path}
use Rattle.smk_flow.specs.Flows.{Candidate, Flow, gathered_folders}
use Rattle.smk_choose.specs.Choose.{Sources, Source, Make, choose}
use Rattle.smk_record.specs.Records.{same_pair}
use Rattle.smk_chain.specs.Derive.{Listings, chosen, same_candidate, walk, wants}
use Rattle.smk_chain.specs.Mean.{Setting, mean}
use Rattle.smk_laws_plan.proofs.CurrentLists.{In, in_flat, flat_in, in_left, in_right, in_distinct, distinct_in, and_left, and_right, and_both}
use Rattle.smk_laws_plan.proofs.CurrentReach.{walk_make}
use Rattle.smk_laws_plan.proofs.CurrentRecipes.{folders_wanted}
use Rattle.smk_laws_plan.proofs.CurrentSame.{pointwise_same, pair_same}
use Rattle.smk_laws_plan.proofs.CurrentWalked.{walked_chosen, chosen_same, candidate_trans}
use Rattle.smk_laws_complete.specs.Derived.{IsServed}
use Rattle.smk_laws_complete.proofs.Meanings.{MadeBy, all_each, choice_of, ground_source, source_choice}

-- ## Candidates, each once

list_self : (ps : List Pair) → pointwise same_pair ps ps ≡ true
list_self [] = refl
list_self (p ∷ ps) = and_both _ _ (and_both _ _ (place_itself p.name) (place_itself p.value)) (list_self ps)

same_parts : (a b : Candidate) → same_candidate a b ≡ true → (a.rule ≡ b.rule) × (a.binding ≡ b.binding)
same_parts a b h =
    (eqb-true a.rule b.rule (and_left (eqb a.rule b.rule) _ h), pointwise_same same_pair pair_same a.binding b.binding (and_right (eqb a.rule b.rule) _ h))

candidate_self : (a : Candidate) → same_candidate a a ≡ true
candidate_self a = and_both _ _ (eq-eqb a.rule a.rule refl) (list_self a.binding)

module _ (flow : Flow) (sources : Sources) (L : Listings) (targets : List Path) where
  abbrev pub all_walked : List Candidate
  all_walked = flat_map (walk flow sources L 200) targets

  -- what is walked is derived
  pub walked_derived : (c : Candidate) → In c all_walked → In c (chosen flow sources L targets)
  walked_derived c h =
      let d = in_distinct same_candidate candidate_self candidate_trans all_walked c h in
      let t = flat_in (walk flow sources L 200) targets c h in
      let u = flat_in (walk flow sources L 200) targets d.0 (distinct_in same_candidate all_walked d.0 d.1) in
      let p = walked_chosen flow sources L 200 t.0 c t.2 in
      let q = walked_chosen flow sources L 200 u.0 d.0 u.2 in
      subst (λ x. In x (chosen flow sources L targets)) (chosen_same flow sources L q.0 p.0 d.0 c q.1 p.1 d.2) d.1

  -- and what is derived is walked from a target
  pub derived_walked : (c : Candidate) → In c (chosen flow sources L targets) → (t : Path) × In t targets × In c (walk flow sources L 200 t)
  derived_walked c h = flat_in (walk flow sources L 200) targets c (distinct_in same_candidate all_walked c h)

module _ (S : Setting) (L : Listings) (targets : List Path) where
  -- all jobs that the walk from the path comes to are derived
  abbrev pub IsWalked : ℕ → Path → Type 0
  IsWalked n p = (c : Candidate) → In c (walk S.flow S.sources L n p) → In c (chosen S.flow S.sources L targets)

  pub own_derived : (n : ℕ) (p : Path) (c : Candidate) → IsWalked (suc n) p → choose S.flow S.sources p ≡ Make c → In c (chosen S.flow S.sources L targets)
  own_derived n p c walked e =
      walked c (subst (In c) (sym (walk_make S.flow S.sources L n p c e)) (in_right c (flat_map (walk S.flow S.sources L n) (wants S.flow L c)) (c ∷ []) (inl refl)))

  pub want_walked :
      (n : ℕ) (p : Path) (c : Candidate) (w : Path) → IsWalked (suc n) p → choose S.flow S.sources p ≡ Make c → In w (wants S.flow L c) → IsWalked n w
  want_walked n p c w walked e i d k =
      walked d (subst (In d) (sym (walk_make S.flow S.sources L n p c e))
      (in_left d (flat_map (walk S.flow S.sources L n) (wants S.flow L c)) (c ∷ []) (in_flat (walk S.flow S.sources L n) (wants S.flow L c) w d i k)))

  -- a directory from which a job of the walk gathers is a source, or its job is derived
  pub folder_served :
      (n : ℕ) (p : Path) (t : Tree) (c : Candidate) → MadeBy S n p t c → IsWalked (suc n) p → (f : Path) → In f (gathered_folders S.flow c) → IsServed S L targets f
  folder_served n p t c made walked f i =
      let v = all_each (mean S n) (gathered_folders S.flow c) made.trees f made.folders i in
      let w = want_walked n p c f walked made.chosen (folders_wanted S.flow c L f i) in go n v.0 v.1 w
    where
      go : (n : ℕ) (s : Tree) → mean S n f ≡ Some s → IsWalked n f → IsServed S L targets f
      go zero s v w = inl (source_choice S.flow S.sources f (ground_source S f s v))
      go (suc m) s v w = pick (choice_of S m f s v)
        where
          pick : (choose S.flow S.sources f ≡ Source) ⊎ ((d : Candidate) × (choose S.flow S.sources f ≡ Make d)) → IsServed S L targets f
          pick (inl e) = inl e
          pick (inr (d, e)) = inr (d, e, own_derived m f d w e)
