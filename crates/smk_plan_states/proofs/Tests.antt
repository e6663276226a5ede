-- Tests of lists: sums of tests, tests of parts, and tests that agree on the members.
use Rattle.std.proofs.Common.{◌≡◌, ◌∙◌, Bool, true, false, not, cond, ◌&&◌, ◌||◌, List, [], ◌∷◌, ◌++◌, map, filter, flat_map, refl, sym, ap, Option, Some, is_some}
use Rattle.std.specs.Prelude.{bytes_eq}
use Rattle.std.specs.List.{list_any}
use Rattle.smk_base.proofs.Places.{same_place}
use Rattle.smk_world.specs.Trees.{Path, among}
use Rattle.smk_chain.specs.Derive.{distinct}

-- ## Booleans

pub or_swap : (a b c d : Bool) → ((a || b) || (c || d)) ≡ ((a || c) || (b || d))
or_swap true b c d = refl
or_swap false true true d = refl
or_swap false true false d = refl
or_swap false false c d = refl

pub some_by : {X : Type 0} (b : Bool) (x : X) (o : Option X) → is_some (cond b (Some x) o) ≡ (b || is_some o)
some_by true x o = refl
some_by false x o = refl

-- ## Lists

pub any_or : {A : Type 0} (f g : A → Bool) (xs : List A) → list_any (λ x. f x || g x) xs ≡ (list_any f xs || list_any g xs)
any_or f g [] = refl
any_or f g (x ∷ xs) = ap (λ b. (f x || g x) || b) (any_or f g xs) ∙ or_swap (f x) (g x) (list_any f xs) (list_any g xs)

pub any_map : {A B : Type 0} (f : B → Bool) (g : A → B) (xs : List A) → list_any f (map g xs) ≡ list_any (λ x. f (g x)) xs
any_map f g [] = refl
any_map f g (x ∷ xs) = ap (λ b. f (g x) || b) (any_map f g xs)

pub any_filter : {A : Type 0} (f t : A → Bool) (xs : List A) → list_any f (filter t xs) ≡ list_any (λ x. t x && f x) xs
any_filter f t [] = refl
any_filter f t (x ∷ xs) = go (t x) (any_filter f t xs)
  where
    go : (b : Bool) → list_any f (filter t xs) ≡ list_any (λ x. t x && f x) xs → list_any f (cond b (x ∷ filter t xs) (filter t xs)) ≡ ((b && f x) || list_any (λ x. t x && f x) xs)
    go true e = ap (λ b. f x || b) e
    go false e = e

pub any_never : {A : Type 0} (xs : List A) → list_any (λ x. false) xs ≡ false
any_never [] = refl
any_never (x ∷ xs) = any_never xs

-- ## Paths

pub among_append : (xs ys : List Path) (p : Path) → among (xs ++ ys) p ≡ (among xs p || among ys p)
among_append [] ys p = refl
among_append (x ∷ xs) ys p = go (bytes_eq p x) (among_append xs ys p)
  where
    go : (b : Bool) → among (xs ++ ys) p ≡ (among xs p || among ys p) → (b || among (xs ++ ys) p) ≡ ((b || among xs p) || among ys p)
    go true e = refl
    go false e = e

pub among_flat : {A : Type 0} (f : A → List Path) (xs : List A) (p : Path) → among (flat_map f xs) p ≡ list_any (λ x. among (f x) p) xs
among_flat f [] p = refl
among_flat f (x ∷ xs) p = among_append (f x) (flat_map f xs) p ∙ ap (λ b. among (f x) p || b) (among_flat f xs p)

among_filter : (x p : Path) (xs : List Path) → bytes_eq p x ≡ false → among (filter (λ y. not (bytes_eq x y)) xs) p ≡ among xs p
among_filter x p [] h = refl
among_filter x p (y ∷ xs) h = go (bytes_eq x y) refl (among_filter x p xs h)
  where
    go : (b : Bool) → bytes_eq x y ≡ b → among (filter (λ y. not (bytes_eq x y)) xs) p ≡ among xs p → among (cond (not b) (y ∷ filter (λ y. not (bytes_eq x y)) xs) (filter (λ y. not (bytes_eq x y)) xs)) p ≡ (bytes_eq p y || among xs p)
    go false e ih = ap (λ b. bytes_eq p y || b) ih
    go true e ih = ih ∙ ap (λ b. b || among xs p) (sym (ap (bytes_eq p) (sym (same_place x y e)) ∙ h))

pub among_once : (xs : List Path) (p : Path) → among (distinct bytes_eq xs) p ≡ among xs p
among_once [] p = refl
among_once (x ∷ xs) p = go (bytes_eq p x) refl (among_once xs p)
  where
    go : (b : Bool) → bytes_eq p x ≡ b → among (distinct bytes_eq xs) p ≡ among xs p → (b || among (filter (λ y. not (bytes_eq x y)) (distinct bytes_eq xs)) p) ≡ (b || among xs p)
    go true e ih = refl
    go false e ih = among_filter x p (distinct bytes_eq xs) e ∙ ih
