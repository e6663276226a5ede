-- What holds of all elements of lists.
use Rattle.std.proofs.Common.{◌≡◌, Bool, true, false, cond, not, eqb-true, ℕ, List, [], ◌∷◌, map, filter, Option, Some, None, refl, sym, subst}
use Rattle.std.specs.Prelude.{nat_eq}
use Rattle.std.specs.List.{flat_map, filter_map, cons_option, AllByRecursion}
use Rattle.smk_chain.specs.Derive.{distinct}
use Rattle.smk_choose.proofs.Listed.{all_append}

-- what there is has P
abbrev pub OnSome : {A : Type 0} → (A → Type 0) → Option A → Type 0
OnSome P None = Unit {0}
OnSome P (Some x) = P x

pub all_flat : {A B : Type 0} (P : B → Type 0) (f : A → List B) → ((x : A) → AllByRecursion P (f x)) → (xs : List A) → AllByRecursion P (flat_map f xs)
all_flat P f h [] = tt
all_flat P f h (x ∷ xs) = all_append P (f x) (flat_map f xs) (h x) (all_flat P f h xs)

pub all_found : {A B : Type 0} (P : B → Type 0) (f : A → Option B) → ((x : A) → OnSome P (f x)) → (xs : List A) → AllByRecursion P (filter_map f xs)
all_found P f h [] = tt
all_found {A} {B} P f h (x ∷ xs) = go (f x) (h x) (all_found P f h xs)
  where
    go : (o : Option B) → OnSome P o → AllByRecursion P (filter_map f xs) → AllByRecursion P (cons_option o (filter_map f xs))
    go None p rest = rest
    go (Some y) p rest = (p, rest)

-- what is found has P
pub of_found : {A B : Type 0} (P : B → Type 0) (f : A → Option B) (xs : List A) → AllByRecursion P (filter_map f xs) → AllByRecursion (λ x. OnSome P (f x)) xs
of_found P f [] h = tt
of_found {A} {B} P f (x ∷ xs) h = go (f x) refl (λ k. of_found P f xs k) h
  where
    go : (o : Option B) → f x ≡ o → (AllByRecursion P (filter_map f xs) → AllByRecursion (λ y. OnSome P (f y)) xs) → AllByRecursion P (cons_option o (filter_map f xs)) → AllByRecursion (λ y. OnSome P (f y)) (x ∷ xs)
    go None e more k = (subst (OnSome P) (sym e) tt, more k)
    go (Some y) e more k = (subst (OnSome P) (sym e) k.0, more k.1)

unfiltered : (P : ℕ → Type 0) (x : ℕ) → P x → (ys : List ℕ) → AllByRecursion P (filter (λ y. not (nat_eq x y)) ys) → AllByRecursion P ys
unfiltered P x p [] h = tt
unfiltered P x p (y ∷ ys) h = go (nat_eq x y) refl (λ k. unfiltered P x p ys k) h
  where
    rest : List ℕ
    rest = filter (λ z. not (nat_eq x z)) ys

    go : (b : Bool) → nat_eq x y ≡ b → (AllByRecursion P rest → AllByRecursion P ys) → AllByRecursion P (cond (not b) (y ∷ rest) rest) → AllByRecursion P (y ∷ ys)
    go true e more k = (subst P (eqb-true x y e) p, more k)
    go false e more k = (k.0, more k.1)

-- what holds of each once holds of all
pub of_distinct : (P : ℕ → Type 0) (xs : List ℕ) → AllByRecursion P (distinct nat_eq xs) → AllByRecursion P xs
of_distinct P [] h = tt
of_distinct P (x ∷ xs) h = (h.0, of_distinct P xs (unfiltered P x h.0 (distinct nat_eq xs) h.1))

pub map_nil : {A B : Type 0} (f : A → B) (xs : List A) → map f xs ≡ [] → xs ≡ []
map_nil f [] e = refl
map_nil f (x ∷ xs) e = absurd cc
