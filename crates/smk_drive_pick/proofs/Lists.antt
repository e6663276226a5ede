-- Tests of all and of some elements.
use Rattle.std.proofs.Common.{◌≡◌, ◌∙◌, Bool, true, false, not, cond, ◌&&◌, ◌||◌, List, [], ◌∷◌, filter, refl, ap, inl, inr}
use Rattle.std.specs.List.{list_all, list_any}
use Rattle.smk_laws_plan.proofs.CurrentLists.{In}

-- all pass where none fails
pub all_or_some : {A : Type 0} (f : A → Bool) (xs : List A) → list_all f xs ≡ not (list_any (λ x. not (f x)) xs)
all_or_some f [] = refl
all_or_some f (x ∷ xs) = go (f x) (all_or_some f xs)
  where
    go : (b : Bool) → list_all f xs ≡ not (list_any (λ x. not (f x)) xs) → (b && list_all f xs) ≡ not (not b || list_any (λ x. not (f x)) xs)
    go true e = e
    go false e = refl

pub and_over : (a b c d : Bool) → ((a && (b && c)) && d) ≡ (a && (b && (c && d)))
and_over true true c d = refl
and_over true false c d = refl
and_over false b c d = refl

-- none is kept where none passes
pub filter_none : {A : Type 0} (t : A → Bool) (xs : List A) → ((x : A) → In x xs → t x ≡ false) → filter t xs ≡ []
filter_none t [] h = refl
filter_none t (x ∷ xs) h = ap (λ b. cond b (x ∷ filter t xs) (filter t xs)) (h x (inl refl)) ∙ filter_none t xs (λ y k. h y (inr k))
