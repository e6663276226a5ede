-- Lists of which some elements are put in anew.
use Rattle.std.proofs.Common.{◌≡◌, ℕ, zero, suc, ◌<◌, ◌≤◌, List, [], ◌∷◌, map, length, Some, refl, ap, ap₂, arith}
use Rattle.std.specs.Prelude.{slice_set}
use Rattle.std.specs.List.{slice_get}
use Rattle.std.proofs.lemmas.Option.{same_Some, none-some}

-- there is nothing to be put beyond the end
pub set_beyond : {A : Type 0} (xs : List A) (n : ℕ) (x : A) → length xs ≤ n → slice_set xs n x ≡ xs
set_beyond [] n x h = refl
set_beyond (y ∷ xs) zero x h = absurd (omega arith)
set_beyond (y ∷ xs) (suc n) x h = ap (λ ys. y ∷ ys) (set_beyond xs n x (omega arith))

pub set_at : {A : Type 0} (xs : List A) (n : ℕ) (x : A) → n < length xs → slice_get (slice_set xs n x) n ≡ Some x
set_at [] n x h = absurd (omega (arith, h))
set_at (y ∷ xs) zero x h = refl
set_at (y ∷ xs) (suc n) x h = set_at xs n x (omega (arith, h))

-- ## Lists that are made of others

pub mapped_at : {A B : Type 0} (f : A → B) (xs : List A) (n : ℕ) (x : A) → slice_get xs n ≡ Some x → slice_get (map f xs) n ≡ Some (f x)
mapped_at f [] n x e = absurd (none-some x e)
mapped_at f (y ∷ xs) zero x e = ap (λ z. Some (f z)) (same_Some y x e)
mapped_at f (y ∷ xs) (suc n) x e = mapped_at f xs n x e

-- one element is put in where what is made of the others is as it was
pub put_one :
    {A B : Type 0} (f g : A → B) (xs : List A) (n : ℕ) (y : B) → ((m : ℕ) (x : A) → (m ≡ n → ⊥) → slice_get xs m ≡ Some x → f x ≡ g x) →
    ((x : A) → slice_get xs n ≡ Some x → y ≡ g x) → slice_set (map f xs) n y ≡ map g xs
put_one {A = A} {B = B} f g [] n y others its = refl
put_one {A = A} {B = B} f g (x ∷ xs) zero y others its = ap₂ (λ z zs. z ∷ zs) (its x refl) (all xs (λ m z at. others (suc m) z (λ e. absurd (omega (arith, e))) at))
  where
    all : (zs : List A) → ((m : ℕ) (z : A) → slice_get zs m ≡ Some z → f z ≡ g z) → map f zs ≡ map g zs
    all [] same = refl
    all (z ∷ zs) same = ap₂ (λ u us. u ∷ us) (same zero z refl) (all zs (λ m u at. same (suc m) u at))
put_one {A = A} {B = B} f g (x ∷ xs) (suc n) y others its =
    ap₂ (λ z zs. z ∷ zs) (others zero x (λ e. absurd (omega (arith, e))) refl)
    (put_one f g xs n y (λ m z other at. others (suc m) z (λ e. other (omega (arith, e))) at) (λ z at. its z at))
