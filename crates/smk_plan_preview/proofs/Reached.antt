-- Where two tell the same on the reach of some targets, they tell the same of all that the chosen jobs want.
use Rattle.std.proofs.Common.{◌≡◌, ℕ, zero, suc, Bool, true, false, cond, not, List, [], ◌∷◌, ◌++◌, filter, refl, sym, ap, subst, ◌∙◌, Option, Some, None}
use Rattle.std.specs.List.{AllByRecursion, flat_map}
use Rattle.smk_choose.proofs.Listed.{all_append}
use Rattle.smk_base.specs.Path.{is_path}
use Rattle.smk_world.specs.Trees.{Path}
use Rattle.smk_pattern.specs.Shapes.{Text}
use Rattle.smk_flow.specs.Flows.{Flow, Candidate}
use Rattle.smk_choose.specs.Choose.{Sources, choose, maker, candidates}
use Rattle.smk_choose.proofs.Picked.{chosen_candidate, chosen_no_source}
use Rattle.smk_chain.specs.Derive.{Listings, wants, distinct, walk, Refusal, NoInput, refused_at, refused, same_candidate, chosen}
use Rattle.smk_chain_sight.specs.Sight.{SameOnReach}
use Rattle.smk_chain_sight.proofs.Agree.{all_weaker, Good, targets_good, walk_same, all_refused_same, all_filtered, all_flat, flat_same, maker_is, never_cons, none_second, none_each}

-- ## Lists

all_and : {A : Type 0} (P Q R : A → Type 0) → ((x : A) → P x → Q x → R x) → (xs : List A) → AllByRecursion P xs → AllByRecursion Q xs → AllByRecursion R xs
all_and P Q R more [] a b = tt
all_and P Q R more (x ∷ xs) a b = (more x a.0 b.0, all_and P Q R more xs a.1 b.1)

flat_all : {A B : Type 0} (P : B → Type 0) (f : A → List B) (xs : List A) → AllByRecursion (λ x. AllByRecursion P (f x)) xs → AllByRecursion P (flat_map f xs)
flat_all P f [] all = tt
flat_all P f (x ∷ xs) all = all_append P (f x) (flat_map f xs) all.0 (flat_all P f xs all.1)

all_kept : {A : Type 0} (p : A → Bool) (P : A → Type 0) (xs : List A) → AllByRecursion P xs → AllByRecursion P (filter p xs)
all_kept p P [] all = tt
all_kept p P (x ∷ xs) all = go (p x) (all_kept p P xs all.1)
  where
    go : (b : Bool) → AllByRecursion P (filter p xs) → AllByRecursion P (cond b (x ∷ filter p xs) (filter p xs))
    go true rest = (all.0, rest)
    go false rest = rest

all_distinct : {A : Type 0} (same : A → A → Bool) (P : A → Type 0) (xs : List A) → AllByRecursion P xs → AllByRecursion P (distinct same xs)
all_distinct same P [] all = tt
all_distinct same P (x ∷ xs) all = (all.0, all_kept (λ y. not (same x y)) P (distinct same xs) (all_distinct same P xs all.1))

-- ## What a chosen job wants

-- n more than k
abbrev over : ℕ → ℕ → ℕ
over zero k = k
over (suc n) k = suc (over n k)

module _ (flow : Flow) (S T : Sources) (L : Listings) where
  -- the two tell the same of all that the job wants
  abbrev pub WantsSame : Candidate → Type 0
  WantsSame c = AllByRecursion (λ (w : Text). T.is w ≡ S.is w) (wants flow L c)

  good_step : (k : ℕ) (p : Path) → Good flow S T L (suc k) p → Good flow S T L k p
  good_step zero p g = g.0.0.0
  good_step (suc k) p g =
      (g.0, λ e. all_weaker (Good flow S T L (suc k)) (Good flow S T L k) (good_step k) (filter is_path (flat_map (wants flow L) (candidates flow S p))) (g.1 e))

  good_is : (n : ℕ) (p : Path) → Good flow S T L n p → T.is p ≡ S.is p
  good_is zero p g = g
  good_is (suc n) p g = g.0.0.0

  chosen_good : (k : ℕ) (p : Path) (c : Candidate) → Good flow S T L (suc k) p → maker (choose flow S p) ≡ Some c → AllByRecursion (λ (w : Text). is_path w ≡ true → Good flow S T L k w) (wants flow L c)
  chosen_good k p c g e =
      let made = maker_is (choose flow S p) c e in
      chosen_candidate flow S p c (λ (d : Candidate). AllByRecursion (λ (w : Text). is_path w ≡ true → Good flow S T L k w) (wants flow L d))
      (all_flat (λ (w : Text). is_path w ≡ true → Good flow S T L k w) (wants flow L) (candidates flow S p)
      (all_filtered is_path (Good flow S T L k) (flat_map (wants flow L) (candidates flow S p)) (g.1 (chosen_no_source flow S p c made)))) made

  -- what is refused of one want
  abbrev refused_want : ℕ → Path → Candidate → Text → List Refusal
  refused_want n p c w = elim (is_path w) as (λ _. List Refusal) [ true ↦ refused flow S L n w | false ↦ NoInput p c.rule w ∷ [] ]

  abbrev want_by : Bool → List Refusal → List Refusal → List Refusal
  want_by b path none = elim b as (λ _. List Refusal) [ true ↦ path | false ↦ none ]

  want_fine : (b : Bool) (x : List Refusal) (p : Path) (rule : ℕ) (w : Text) → want_by b x (NoInput p rule w ∷ []) ≡ [] → (b ≡ true) × (x ≡ [])
  want_fine true x p rule w e = (refl, e)
  want_fine false x p rule w e = absurd (never_cons (NoInput p rule w) [] e)

  abbrev refused_by : (Candidate → List Refusal) → Option Candidate → List Refusal
  refused_by f m = elim m as (λ _. List Refusal) [ None ↦ [] | Some c ↦ f c ]

  abbrev walk_by : (Candidate → List Candidate) → Option Candidate → List Candidate
  walk_by f m = elim m as (λ _. List Candidate) [ None ↦ [] | Some c ↦ f c ]

  walk_wants : (n k : ℕ) (p : Path) → Good flow S T L (over n k) p → refused flow S L (suc n) p ≡ [] → AllByRecursion WantsSame (walk flow S L n p)
  walk_wants zero k p g none = tt
  walk_wants (suc n) k p g none =
      go (maker (choose flow S p)) refl (walk_wants n k)
      (none_second (refused_at flow L p (choose flow S p)) (refused_by (λ c. flat_map (refused_want (suc n) p c) (wants flow L c)) (maker (choose flow S p))) none)
    where
      go : (m : Option Candidate) → maker (choose flow S p) ≡ m → ((q : Path) → Good flow S T L (over n k) q → refused flow S L (suc n) q ≡ [] → AllByRecursion WantsSame (walk flow S L n q))
          → refused_by (λ c. flat_map (refused_want (suc n) p c) (wants flow L c)) m ≡ []
          → AllByRecursion WantsSame (walk_by (λ c. flat_map (walk flow S L n) (wants flow L c) ++ c ∷ []) m)
      go None e again fine = tt
      go (Some c) e again fine =
          let wanted = chosen_good (over n k) p c g e in
          all_append WantsSame (flat_map (walk flow S L n) (wants flow L c)) (c ∷ [])
          (flat_all WantsSame (walk flow S L n) (wants flow L c)
          (all_and (λ (w : Text). is_path w ≡ true → Good flow S T L (over n k) w) (λ w. refused_want (suc n) p c w ≡ []) (λ w. AllByRecursion WantsSame (walk flow S L n w))
          (λ w h none. let f = want_fine (is_path w) (refused flow S L (suc n) w) p c.rule w none in again w (h f.0) f.1)
          (wants flow L c) wanted (none_each (refused_want (suc n) p c) (wants flow L c) fine))) (
            all_and (λ (w : Text). is_path w ≡ true → Good flow S T L (over n k) w) (λ w. refused_want (suc n) p c w ≡ []) (λ (w : Text). T.is w ≡ S.is w)
                (λ w h none. good_is (over n k) w (h (want_fine (is_path w) (refused flow S L (suc n) w) p c.rule w none).0))
                (wants flow L c) wanted (none_each (refused_want (suc n) p c) (wants flow L c) fine),
            tt,
          )

  module _ (targets : List Path) (all : SameOnReach flow S L targets T) where
    goods : AllByRecursion (Good flow S T L 400) targets
    goods = targets_good flow S T L targets all

    pub targets_told : AllByRecursion (λ (t : Path). T.is t ≡ S.is t) targets
    targets_told = all_weaker (Good flow S T L 400) (λ (t : Path). T.is t ≡ S.is t) (λ t g. good_is 400 t g) targets goods

    module _ (fine_told : flat_map (refused flow T L 201) targets ≡ []) where
      fine : flat_map (refused flow S L 201) targets ≡ []
      fine = sym (all_refused_same flow S T L targets goods) ∙ fine_told

      each_fine : AllByRecursion (λ (t : Path). refused flow S L 201 t ≡ []) targets
      each_fine = none_each (refused flow S L 201) targets fine

      chosen_same : chosen flow T L targets ≡ chosen flow S L targets
      chosen_same =
          ap (distinct same_candidate)
          (flat_same (walk flow T L 200) (walk flow S L 200) targets
          (all_and (Good flow S T L 400) (λ (t : Path). refused flow S L 201 t ≡ []) (λ (t : Path). walk flow T L 200 t ≡ walk flow S L 200 t)
          (λ t g none. walk_same flow S T L 200 t (good_step 399 t g) none) targets goods each_fine))

      chosen_by : AllByRecursion WantsSame (chosen flow S L targets)
      chosen_by =
          all_distinct same_candidate WantsSame (flat_map (walk flow S L 200) targets)
          (flat_all WantsSame (walk flow S L 200) targets
          (all_and (Good flow S T L 400) (λ (t : Path). refused flow S L 201 t ≡ []) (λ (t : Path). AllByRecursion WantsSame (walk flow S L 200 t))
          (λ t g none. walk_wants 200 200 t g none) targets goods each_fine))

      -- of all that the chosen jobs want the same is told
      pub chosen_told : AllByRecursion WantsSame (chosen flow T L targets)
      chosen_told = subst (AllByRecursion WantsSame) (sym chosen_same) chosen_by
