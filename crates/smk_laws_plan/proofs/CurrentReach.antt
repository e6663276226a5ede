-- What a derivation without refusals says of each path that its walk comes to.
use Rattle.std.proofs.Common.{◌≡◌, ◌⊎◌, ℕ, zero, suc, ◌≤◌, ◌+◌, max, Bool, true, false, List, [], ◌∷◌, ◌++◌, map, refl, sym, ap, subst, inl, inr, ◌∙◌, arith, Some, None, is_some, flat_map, fold, eqb}
use Rattle.smk_laws_plan.proofs.CurrentLists.{In, in_left, in_right, in_flat, in_map, in_filter, flat_nil, append_nil_left, append_nil_right, cons_nil}
use Rattle.std.specs.Prelude.{is_none, Option}
use Rattle.smk_pattern.specs.Shapes.{Text}
use Rattle.smk_world.specs.Trees.{folder_over}
use Rattle.smk_chain.specs.Derive.{refused_if, is_missing, recipe}
use Rattle.smk_base.specs.Path.{is_path}
use Rattle.smk_chain.specs.Derive.{Derived, Listings, NoInput, Refusal, Refused, height, lacking, outcome, refused, refused_at, walk, wanted_paths, wants}
use Rattle.smk_chain.proofs.Heights.{fold_above, below_top, height_by, height_within}
use Rattle.smk_choose.specs.Choose.{Ambiguous, Choice, Make, Nothing, Source, Sources, choose, maker}
use Rattle.smk_flow.specs.Flows.{Candidate, Flow}
use Rattle.smk_flow.specs.declared.job.Job.{Job}
use Rattle.smk_world.specs.Trees.{Path}

pub fold_max : (xs : List ℕ) (a x : ℕ) → In x xs → x ≤ fold max a xs
fold_max [] a x h = absurd h
fold_max (y ∷ xs) a x (inl e) = let h = fold_above xs (max a y) in omega arith
fold_max (y ∷ xs) a x (inr h) = fold_max xs (max a y) x h

module _ (flow : Flow) (sources : Sources) (L : Listings) where
  abbrev pub walk_by : ℕ → Choice → List Candidate
  walk_by n ch =
      elim (maker ch) as (λ _. List Candidate) [
        | None ↦ []
        | Some c ↦ flat_map (walk flow sources L n) (wants flow L c) ++ c ∷ []
      ]

  pub walk_make :
      (n : ℕ) (p : Path) (c : Candidate) → choose flow sources p ≡ Make c →
      walk flow sources L (suc n) p ≡ flat_map (walk flow sources L n) (wants flow L c) ++ c ∷ []
  walk_make n p c e = ap (walk_by n) e

  pub height_make :
      (n : ℕ) (p : Path) (c : Candidate) → choose flow sources p ≡ Make c →
      height flow sources L (suc n) p ≡ 1 + fold max 0 (map (height flow sources L n) (wanted_paths flow L c))
  height_make n p c e = ap (height_by flow sources L n) e

  abbrev refused_by : ℕ → Path → Choice → List Refusal
  refused_by n p ch =
      refused_at flow L p ch
      ++ elim (maker ch) as (λ _. List Refusal) [
        | None ↦ []
        | Some c ↦
            flat_map
            (λ w. elim (is_path w) as (λ _. List Refusal) [ true ↦ refused flow sources L n w | false ↦ NoInput p c.rule w ∷ [] ])
            (wants flow L c)
      ]

  pub refused_make :
      (n : ℕ) (p : Path) (c : Candidate) → choose flow sources p ≡ Make c →
      refused flow sources L (suc n) p ≡ refused_by n p (Make c)
  refused_make n p c e = ap (refused_by n p) e

  -- the walk came to the path with n jobs left, and nothing was refused
  pub record Reached (all : List Candidate) (n : ℕ) (p : Path) : Type 0 where
    pub fits : height flow sources L (suc n) p ≤ n
    pub calm : refused flow sources L (suc n) p ≡ []
    pub within : (c : Candidate) → In c (walk flow sources L n p) → In c all

  pub choice_known : (n : ℕ) (p : Path) → refused flow sources L (suc n) p ≡ [] → (choose flow sources p ≡ Source) ⊎ ((c : Candidate) × (choose flow sources p ≡ Make c))
  choice_known n p calm = go (choose flow sources p) refl
    where
      go : (ch : Choice) → choose flow sources p ≡ ch → (ch ≡ Source) ⊎ ((c : Candidate) × (ch ≡ Make c))
      go Source e = inl refl
      go (Make c) e = inr (c, refl)
      go (Nothing lack) e = absurd (cons_nil (lacking p lack) [] (sym (ap (refused_by n p) e) ∙ calm))
      go (Ambiguous a b) e = absurd (cons_nil (Refusal.TwoJobs p a b) [] (sym (ap (refused_by n p) e) ∙ calm))

  pub reached_zero : (all : List Candidate) (p : Path) (c : Candidate) → Reached all zero p → choose flow sources p ≡ Make c → ⊥
  reached_zero all p c r e = let h = height_make zero p c e in let k = r.fits in omega arith

  calm_want :
      (n : ℕ) (p : Path) (c : Candidate) (w : Path) →
      elim (is_path w) as (λ _. List Refusal) [ true ↦ refused flow sources L n w | false ↦ NoInput p c.rule w ∷ [] ] ≡ [] →
      (is_path w ≡ true) × (refused flow sources L n w ≡ [])
  calm_want n p c w h = go (is_path w) h
    where
      go : (b : Bool) → elim b as (λ _. List Refusal) [ true ↦ refused flow sources L n w | false ↦ NoInput p c.rule w ∷ [] ] ≡ [] → (b ≡ true) × (refused flow sources L n w ≡ [])
      go true h = (refl, h)
      go false h = absurd (cons_nil (NoInput p c.rule w) [] h)

  pub reached_step :
      (all : List Candidate) (n : ℕ) (p : Path) (c : Candidate) (q : Path) →
      Reached all (suc n) p → choose flow sources p ≡ Make c → In q (wants flow L c) → Reached all n q
  reached_step all n p c q r e h =
      let tall = height_make (suc n) p c e in
      let fits = r.fits in
      let calm = sym (refused_make (suc n) p c e) ∙ r.calm in
      let want = calm_want (suc n) p c q (flat_nil _ (wants flow L c) q (append_nil_right (refused_at flow L p (Make c)) _ calm) h) in
      let kept = in_filter is_path (wants flow L c) q h want.0 in
      let most = fold_max (map (height flow sources L (suc n)) (wanted_paths flow L c)) 0 (height flow sources L (suc n) q) (in_map (height flow sources L (suc n)) (wanted_paths flow L c) q kept) in
      record {
        fits = omega arith;
        calm = want.1;
        within = λ d k. r.within d (subst (In d) (sym (walk_make n p c e)) (in_left d _ (c ∷ []) (in_flat (walk flow sources L n) (wants flow L c) q d h k)));
      }

  pub want_path :
      (n : ℕ) (p : Path) (c : Candidate) (q : Path) →
      refused flow sources L (suc n) p ≡ [] → choose flow sources p ≡ Make c → In q (wants flow L c) → is_path q ≡ true
  want_path n p c q calm e h =
      (calm_want n p c q (flat_nil _ (wants flow L c) q (append_nil_right (refused_at flow L p (Make c)) _ (sym (refused_make n p c e) ∙ calm)) h)).0

  pub has_command :
      (n : ℕ) (p : Path) (c : Candidate) →
      refused flow sources L (suc n) p ≡ [] → choose flow sources p ≡ Make c → is_some c.part.command ≡ true
  has_command n p c calm e =
      go c.part.command (append_nil_right (refused_if (is_missing L p (folder_over (recipe flow L c) p)) (Refusal.MissingMember p)) _ (append_nil_left (refused_at flow L p (Make c)) _ (sym (refused_make n p c e) ∙ calm)))
    where
      go : (o : Option Text) → refused_if (is_none o) (Refusal.NoCommand c.rule) ≡ [] → is_some o ≡ true
      go None h = absurd (cons_nil (Refusal.NoCommand c.rule) [] h)
      go (Some t) h = refl

  pub reached_own :
      (all : List Candidate) (n : ℕ) (p : Path) (c : Candidate) → Reached all (suc n) p → choose flow sources p ≡ Make c → In c all
  reached_own all n p c r e =
      r.within c (subst (In c) (sym (walk_make n p c e)) (in_right c (flat_map (walk flow sources L n) (wants flow L c)) (c ∷ []) (inl refl)))

  pub reached_target :
      (targets : List Path) (n : ℕ) (p : Path) →
      eqb (height flow sources L (suc n) p) (suc n) ≡ false →
      flat_map (refused flow sources L (suc n)) targets ≡ [] →
      In p targets → Reached (flat_map (walk flow sources L n) targets) n p
  reached_target targets n p deep calm h =
      record {
        fits = below_top (height flow sources L (suc n) p) n (height_within flow sources L (suc n) p) deep;
        calm = flat_nil (refused flow sources L (suc n)) targets p calm h;
        within = λ c k. in_flat (walk flow sources L n) targets p c h k;
      }

pub outcome_derived : (rs : List Refusal) (js ks : List Job) → outcome rs js ≡ Derived ks → (rs ≡ []) × (js ≡ ks)
outcome_derived [] js ks e = (refl, derived_inj js ks e)
  where
    derived_inj : (a b : List Job) → Derived a ≡ Derived b → a ≡ b
    derived_inj a b h = cc
outcome_derived (r ∷ rs) js ks e = absurd (other r js ks e)
  where
    other : (r : Refusal) (a b : List Job) → Refused r ≡ Derived b → ⊥
    other r a b h = grind arith
