-- The first path of the sources that are seen, and what it means.
use Rattle.std.proofs.Common.{◌≡◌, ◌⊎◌, inl, inr, Bool, true, false, List, [], ◌∷◌, refl, sym, ap, subst, ◌∙◌, Option, Some, None}
use Rattle.std.specs.Prelude.{if◌then◌else◌}
use Rattle.std.specs.List.{fold}
use Rattle.std.specs.Cmp.Lexicographic.{slice_cmp}
use Rattle.std.specs.Ordering.{nat_cmp, ordering_reverse, is_eq}
use Rattle.std.specs.declared.cmp.Ordering.{Ordering}
use Rattle.std.specs.declared.cmp.Ordering.TheVariants.{Less, Equal, Greater}
use Rattle.std.proofs.lemmas.Cmp.{nat_list_cmp_total, tied_itself}
use Rattle.std.proofs.lemmas.Map.Text.{is_eq-slice_cmp}
use Rattle.smk_base.proofs.Places.{same_place}
use Rattle.smk_world.specs.Trees.{Path, IsIn}
use Rattle.smk_record.specs.Records.{is_less}
use Rattle.smk_store.specs.declared.sources.Source.{Source}
use Rattle.smk_store.specs.Sources.{first_seen, earlier}

never : true ≡ false → ⊥
never e = cc

abbrev IsBefore : Path → Path → Type 0
IsBefore p q = slice_cmp nat_cmp p q ≡ Less

not_itself : (p : Path) → ¬ (IsBefore p p)
not_itself p h = let e : slice_cmp nat_cmp p p ≡ Equal = tied_itself nat_list_cmp_total p in cc

less_of : (o : Ordering) → is_less o ≡ true → o ≡ Less
less_of Less h = refl
less_of Equal h = absurd (never (sym h))
less_of Greater h = absurd (never (sym h))

same_of : (p q : Path) → slice_cmp nat_cmp p q ≡ Equal → p ≡ q
same_of p q e = same_place p q (sym (is_eq-slice_cmp p q) ∙ ap is_eq e)

-- what isn't before x isn't before what x isn't before
not_through : (p x q : Path) (o : Ordering) → slice_cmp nat_cmp p x ≡ o → is_less o ≡ false → ¬ (IsBefore x q) → ¬ (IsBefore p q)
not_through p x q Less e h free k = never h
not_through p x q Equal e h free k = free (subst (λ y. IsBefore y q) (same_of p x e) k)
not_through p x q Greater e h free k =
    free (nat_list_cmp_total.trans x p q (nat_list_cmp_total.antisymm x p ∙ ap ordering_reverse e) k)

abbrev pick : Bool → Path → Option Path → Option Path
pick b p first = if b then Some p else first

-- one step: which path is kept, and what isn't before q
step_from : (a : Option Path) (p q : Path) (b : Bool) → earlier a p b ≡ Some q → (a ≡ Some q) ⊎ ((b ≡ true) × (p ≡ q))
step_from a p q false h = inl h
step_from None p q true h = inr (refl, some_same p q h)
  where
    some_same : (x y : Path) → Some x ≡ Some y → x ≡ y
    some_same x y e = cc
step_from (Some x) p q true h = by (is_less (slice_cmp nat_cmp p x)) h
  where
    by : (c : Bool) → pick c p (Some x) ≡ Some q → (Some x ≡ Some q) ⊎ ((true ≡ true) × (p ≡ q))
    by true e = let same : p ≡ q = cc in inr (refl, same)
    by false e = inl e

step_none : (a : Option Path) (p : Path) (b : Bool) → earlier a p b ≡ None → (a ≡ None) × (b ≡ false)
step_none a p false h = (h, refl)
step_none None p true h = absurd cc
step_none (Some x) p true h = by (is_less (slice_cmp nat_cmp p x)) h
  where
    by : (c : Bool) → pick c p (Some x) ≡ None → (Some x ≡ None) × (true ≡ false)
    by true e = absurd cc
    by false e = absurd cc

abbrev NotBefore : Option Path → Path → Type 0
NotBefore a q = (x : Path) → a ≡ Some x → ¬ (IsBefore x q)

step_bound : (a : Option Path) (p q : Path) (b : Bool) → NotBefore (earlier a p b) q → NotBefore a q × (b ≡ true → ¬ (IsBefore p q))
step_bound a p q false h = (h, λ e. absurd (never (sym e)))
step_bound None p q true h = (λ x e. absurd cc, λ e. h p refl)
step_bound (Some x) p q true h = by (is_less (slice_cmp nat_cmp p x)) refl h
  where
    by : (c : Bool) → is_less (slice_cmp nat_cmp p x) ≡ c → NotBefore (pick c p (Some x)) q → NotBefore (Some x) q × (true ≡ true → ¬ (IsBefore p q))
    by true e k =
        let first : ¬ (IsBefore p q) = k p refl in
        (λ y is lt. let same : x ≡ y = cc in first (nat_list_cmp_total.trans p x q (less_of (slice_cmp nat_cmp p x) e) (subst (λ z. IsBefore z q) (sym same) lt)), λ t. first)
    by false e k = (k, λ t. not_through p x q (slice_cmp nat_cmp p x) refl e (k x refl))

module _ (seen : Source → Bool) where
  abbrev kept : Option Path → List Source → Option Path
  kept a xs = fold (λ first (s : Source). earlier first s.path (seen s)) a xs

  none_seen : (xs : List Source) (a : Option Path) → kept a xs ≡ None → (a ≡ None) × ((s : Source) → IsIn xs s → seen s ≡ true → ⊥)
  none_seen [] a h = (h, λ s i. absurd i)
  none_seen (x ∷ xs) a h =
      let r = none_seen xs (earlier a x.path (seen x)) h in
      let e = step_none a x.path (seen x) r.0 in
      (e.0, λ s i k. at s i k e.1 r.1)
    where
      at : (s : Source) → IsIn (x ∷ xs) s → seen s ≡ true → seen x ≡ false → ((t : Source) → IsIn xs t → seen t ≡ true → ⊥) → ⊥
      at s (inl is) k un rest = never (sym k ∙ ap seen is ∙ un)
      at s (inr i) k un rest = rest s i k

  record Picked (a : Option Path) (xs : List Source) (q : Path) : Type 0 where
    from : (a ≡ Some q) ⊎ ((s : Source) × IsIn xs s × (seen s ≡ true) × (s.path ≡ q))
    old : NotBefore a q
    new : (s : Source) → IsIn xs s → seen s ≡ true → ¬ (IsBefore s.path q)

  picked : (xs : List Source) (a : Option Path) (q : Path) → kept a xs ≡ Some q → Picked a xs q
  picked [] a q h = record {
    from = inl h;
    old = λ x e lt. let same : x ≡ q = cc in not_itself q (subst (λ z. IsBefore z q) same lt);
    new = λ s i. absurd i;
  }
  picked (x ∷ xs) a q h =
      let r = picked xs (earlier a x.path (seen x)) q h in
      let bound = step_bound a x.path q (seen x) r.old in
      record {
        from = source r.from;
        old = bound.0;
        new = λ s i k. at s i k bound.1 r.new;
      }
    where
      first : (a ≡ Some q) ⊎ ((seen x ≡ true) × (x.path ≡ q)) → (a ≡ Some q) ⊎ ((s : Source) × IsIn (x ∷ xs) s × (seen s ≡ true) × (s.path ≡ q))
      first (inl e) = inl e
      first (inr e) = inr (x, inl refl, e.0, e.1)

      source : (earlier a x.path (seen x) ≡ Some q) ⊎ ((s : Source) × IsIn xs s × (seen s ≡ true) × (s.path ≡ q))
          → (a ≡ Some q) ⊎ ((s : Source) × IsIn (x ∷ xs) s × (seen s ≡ true) × (s.path ≡ q))
      source (inl e) = first (step_from a x.path q (seen x) e)
      source (inr e) = inr (e.0, inr e.1, e.2, e.3)

      at : (s : Source) → IsIn (x ∷ xs) s → seen s ≡ true → (seen x ≡ true → ¬ (IsBefore x.path q)) → ((t : Source) → IsIn xs t → seen t ≡ true → ¬ (IsBefore t.path q)) → ¬ (IsBefore s.path q)
      at s (inl is) k one rest = subst (λ (t : Source). ¬ (IsBefore t.path q)) (sym is) (one (sym (ap seen is) ∙ k))
      at s (inr i) k one rest = rest s i k

  -- where there is none, none is seen
  pub first_none : (xs : List Source) → first_seen seen xs ≡ None → (s : Source) → IsIn xs s → seen s ≡ true → ⊥
  first_none xs h = (none_seen xs None h).1

  pub first_from : (xs : List Source) (q : Path) → first_seen seen xs ≡ Some q → (s : Source) × IsIn xs s × (seen s ≡ true) × (s.path ≡ q)
  first_from xs q h = by (picked xs None q h).from
    where
      by : (None ≡ Some q) ⊎ ((s : Source) × IsIn xs s × (seen s ≡ true) × (s.path ≡ q)) → (s : Source) × IsIn xs s × (seen s ≡ true) × (s.path ≡ q)
      by (inl e) = absurd cc
      by (inr e) = e

  pub first_least : (xs : List Source) (q : Path) → first_seen seen xs ≡ Some q → (s : Source) → IsIn xs s → seen s ≡ true → ¬ (IsBefore s.path q)
  first_least xs q h = (picked xs None q h).new
