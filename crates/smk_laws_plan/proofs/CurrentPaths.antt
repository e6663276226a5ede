-- Paths under paths, for the law of current targets.
use Rattle.std.proofs.Common.{◌≡◌, ◌⊎◌, Bool, true, false, List, [], ◌∷◌, map, cond, reverse, refl, sym, subst, inl, inr, ◌∙◌, eqb, eq-eqb}
use Rattle.std.specs.Prelude.{bytes_eq}
use mathlib.Core.List.{reverse-cons}
use Rattle.smk_base.specs.Path.{is_under, overlaps}
use Rattle.smk_base.proofs.Places.{same_place, place_itself}
use Rattle.smk_base.proofs.Under.{overlaps_above_both, at_when_under, at_itself, overlaps_at, overlaps_over}
use Rattle.smk_world.specs.World.{folders_above}
use Rattle.smk_world.specs.Trees.{Path, among}
use Rattle.smk_laws_plan.proofs.CurrentLists.{In, map_in, and_both, or_cases, or_first, or_second, in_left, in_right, in_either}

pub among_in : (ps : List Path) (p : Path) → among ps p ≡ true → In p ps
among_in [] p h = absurd (Rattle.smk_laws_plan.proofs.CurrentLists.clash_of false h refl)
among_in (x ∷ ps) p h = go (or_cases (bytes_eq p x) (among ps p) h) (among_in ps p)
  where
    go : (bytes_eq p x ≡ true) ⊎ (among ps p ≡ true) → (among ps p ≡ true → In p ps) → In p (x ∷ ps)
    go (inl e) ih = inl (same_place p x e)
    go (inr e) ih = inr (ih e)

pub in_among : (ps : List Path) (p : Path) → In p ps → among ps p ≡ true
in_among [] p h = absurd h
in_among (x ∷ ps) p (inl e) = or_first (bytes_eq p x) (among ps p) (subst (λ q. bytes_eq p q ≡ true) e (place_itself p))
in_among (x ∷ ps) p (inr h) = or_second (bytes_eq p x) (among ps p) (in_among ps p h)

-- equal, or one under the other
abbrev pub Touch : Path → Path → Type 0
Touch a b = (a ≡ b) ⊎ ((is_under a b ≡ true) ⊎ (is_under b a ≡ true))

pub touch_turned : (a b : Path) → Touch a b → Touch b a
touch_turned a b (inl e) = inl (sym e)
touch_turned a b (inr (inl h)) = inr (inr h)
touch_turned a b (inr (inr h)) = inr (inl h)

pub touch_overlaps : (a b : Path) → Touch a b → overlaps a b ≡ true
touch_overlaps a b (inl e) = subst (λ c. overlaps a c ≡ true) e (overlaps_at a a (at_itself a))
touch_overlaps a b (inr (inl h)) = overlaps_at a b (at_when_under a b h)
touch_overlaps a b (inr (inr h)) = overlaps_over a b h

overlaps_touch : (a b : Path) → overlaps a b ≡ true → Touch a b
overlaps_touch a b h = go (or_cases (bytes_eq a b) _ h)
  where
    more : (is_under a b ≡ true) ⊎ (is_under b a ≡ true) → Touch a b
    more k = inr k

    go : (bytes_eq a b ≡ true) ⊎ (Rattle.std.specs.Prelude.◌||◌ (is_under a b) (is_under b a) ≡ true) → Touch a b
    go (inl e) = inl (same_place a b e)
    go (inr k) = more (or_cases (is_under a b) (is_under b a) k)

-- two folders above one path
pub both_above : (q a b : Path) → is_under q a ≡ true → is_under q b ≡ true → Touch a b
both_above q a b h k = overlaps_touch a b (overlaps_above_both q a b (at_when_under q a h) (at_when_under q b k))

-- at the path or above it
abbrev pub Above : Path → Path → Type 0
Above q o = (q ≡ o) ⊎ (is_under q o ≡ true)

pub above_touch : (q a b : Path) → Above q a → Above q b → Touch a b
above_touch q a b (inl e) (inl f) = inl (sym e ∙ f)
above_touch q a b (inl e) (inr h) = inr (inl (subst (λ c. is_under c b ≡ true) e h))
above_touch q a b (inr h) (inl e) = inr (inr (subst (λ c. is_under c a ≡ true) e h))
above_touch q a b (inr h) (inr k) = both_above q a b h k

-- a folder above a path is one of which the path is a member
pub folders_under : (q f : Path) → In f (folders_above q) → is_under q f ≡ true
folders_under [] f h = absurd h
folders_under (b ∷ q) f h = go (eqb b 47) refl h (folders_under q)
  where
    from_map : In f (map (λ f. b ∷ f) (folders_above q)) → ((f : Path) → In f (folders_above q) → is_under q f ≡ true) → is_under (b ∷ q) f ≡ true
    from_map k ih =
        let r = map_in (λ f. b ∷ f) (folders_above q) f k in
        subst (λ g. is_under (b ∷ q) g ≡ true) (sym r.2) (and_both (eqb b b) (is_under q r.0) (eq-eqb b b refl) (ih r.0 r.1))

    slash : eqb b 47 ≡ true → In f ([] ∷ map (λ f. b ∷ f) (folders_above q)) → ((f : Path) → In f (folders_above q) → is_under q f ≡ true) → is_under (b ∷ q) f ≡ true
    slash e (inl n) ih = subst (λ g. is_under (b ∷ q) g ≡ true) (sym n) e
    slash e (inr k) ih = from_map k ih

    go : (t : Bool) → eqb b 47 ≡ t → In f (cond t ([] ∷ map (λ f. b ∷ f) (folders_above q)) (map (λ f. b ∷ f) (folders_above q))) → ((f : Path) → In f (folders_above q) → is_under q f ≡ true) → is_under (b ∷ q) f ≡ true
    go true e k ih = slash e k ih
    go false e k ih = from_map k ih

pub in_reverse : {A : Type 0} (xs : List A) (x : A) → In x xs → In x (reverse xs)
in_reverse [] x h = absurd h
in_reverse (y ∷ xs) x (inl e) = subst (In x) (sym (reverse-cons y xs)) (in_right x (reverse xs) (y ∷ []) (inl e))
in_reverse (y ∷ xs) x (inr h) = subst (In x) (sym (reverse-cons y xs)) (in_left x (reverse xs) (y ∷ []) (in_reverse xs x h))

pub reverse_in : {A : Type 0} (xs : List A) (x : A) → In x (reverse xs) → In x xs
reverse_in [] x h = h
reverse_in {A} (y ∷ xs) x h = go (in_either x (reverse xs) (y ∷ []) (subst (In x) (reverse-cons y xs) h)) (reverse_in xs x)
  where
    last : In x (y ∷ []) → In x (y ∷ xs)
    last (inl e) = inl e
    last (inr k) = absurd k

    go : In x (reverse xs) ⊎ In x (y ∷ []) → (In x (reverse xs) → In x xs) → In x (y ∷ xs)
    go (inl k) ih = inr (ih k)
    go (inr k) ih = last k
