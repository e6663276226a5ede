-- The greatest of some numbers.
use Rattle.std.proofs.Common.{◌≡◌, ℕ, zero, suc, ◌+◌, ◌<◌, ◌≤◌, max, min, get_or, length, drop, Bool, true, false, cond, Option, Some, None, List, [], ◌∷◌, ◌++◌, map, refl, sym, ap, subst, ◌∙◌, arith}
use Rattle.std.specs.List.{fold, find, AllByRecursion}
use Rattle.std.proofs.lemmas.List.{at_drop_more}

pub fold_max : (xs : List ℕ) (a b : ℕ) → fold max (max a b) xs ≡ max a (fold max b xs)
fold_max [] a b = refl
fold_max (x ∷ xs) a b = ap (λ (k : ℕ). fold max k xs) (same a b x) ∙ fold_max xs a (max b x)
  where
    same : (a b x : ℕ) → max (max a b) x ≡ max a (max b x)
    same a b x = omega arith

-- of one before others
pub top_first : {A : Type 0} (f : A → ℕ) (x : A) (xs : List A) → fold max 0 (map f (x ∷ xs)) ≡ max (f x) (fold max 0 (map f xs))
top_first f x xs = ap (λ (k : ℕ). fold max k (map f xs)) (same (f x)) ∙ fold_max (map f xs) (f x) 0
  where
    same : (a : ℕ) → max 0 a ≡ max a 0
    same a = omega arith

-- of two lists
pub top_both : {A : Type 0} (f : A → ℕ) (xs ys : List A) → fold max 0 (map f (xs ++ ys)) ≡ max (fold max 0 (map f xs)) (fold max 0 (map f ys))
top_both f [] ys = least (fold max 0 (map f ys))
  where
    least : (a : ℕ) → a ≡ max 0 a
    least a = omega arith
top_both f (x ∷ xs) ys =
    top_first f x (xs ++ ys)
    ∙ ap (max (f x)) (top_both f xs ys)
    ∙ same (f x) (fold max 0 (map f xs)) (fold max 0 (map f ys))
    ∙ ap (λ (k : ℕ). max k (fold max 0 (map f ys))) (sym (top_first f x xs))
  where
    same : (a b c : ℕ) → max a (max b c) ≡ max (max a b) c
    same a b c = omega arith

-- none is above a bound, so neither is the greatest
pub top_within : {A : Type 0} (f : A → ℕ) (n : ℕ) → ((x : A) → f x ≤ n) → (xs : List A) → fold max 0 (map f xs) ≤ n
top_within f n h [] = omega arith
top_within f n h (x ∷ xs) = let e = top_first f x xs in let k = top_within f n h xs in let j = h x in omega arith

-- each is below the greatest
pub top_above : {A : Type 0} (f : A → ℕ) (xs : List A) (i : ℕ) (x : A) → i < length xs → x ≡ get_or xs i x → f x ≤ fold max 0 (map f xs)
top_above f [] i x lt at = absurd (omega (arith, lt))
top_above f (y ∷ ys) zero x lt at = let e = top_first f y ys in let same : f x ≡ f y = ap f at in omega arith
top_above f (y ∷ ys) (suc i) x lt at =
    let e = top_first f y ys in let k = top_above f ys i x (omega (arith, lt)) at in omega arith

-- the lesser of each and a bound
pub top_min : {A : Type 0} (f g : A → ℕ) (n : ℕ) → ((x : A) → f x ≡ min n (g x)) → (xs : List A) → fold max 0 (map f xs) ≡ min n (fold max 0 (map g xs))
top_min f g n h [] = omega arith
top_min f g n h (x ∷ xs) =
    let a = top_first f x xs in let b = top_first g x xs in let k = top_min f g n h xs in let j = h x in omega arith

-- what holds of all holds of each
pub all_at : {A : Type 0} (P : A → Type 0) (xs : List A) (i : ℕ) (x : A) → AllByRecursion P xs → i < length xs → x ≡ get_or xs i x → P x
all_at P [] i x all lt at = absurd (omega (arith, lt))
all_at P (y ∷ ys) zero x all lt at = subst P (sym at) all.0
all_at P (y ∷ ys) (suc i) x all lt at = all_at P ys i x all.1 (omega (arith, lt)) at

pub no_more : {A : Type 0} (xs : List A) (i : ℕ) → length xs ≤ i → drop i xs ≡ []
no_more [] zero le = refl
no_more [] (suc i) le = refl
no_more (x ∷ xs) zero le = absurd (omega (arith, le))
no_more (x ∷ xs) (suc i) le = no_more xs i (omega (arith, le))

pub is_none : {A : Type 0} (o : Option A) → ((x : A) → o ≡ Some x → ⊥) → o ≡ None
is_none None not = refl
is_none (Some x) not = absurd (not x refl)

find_at : {A : Type 0} (f : A → Bool) (x : A) (xs : List A) (b : Bool) → f x ≡ b → find f (x ∷ xs) ≡ cond b (Some x) (find f xs)
find_at f x xs b e = ap (λ (b : Bool). cond b (Some x) (find f xs)) e

rest_at : {A : Type 0} (xs : List A) (i : ℕ) (x : A) → i < length xs → x ≡ get_or xs i x → drop i xs ≡ x ∷ drop (i + 1) xs
rest_at xs i x lt at = at_drop_more (λ ys. ys) xs i x lt ∙ ap (λ y. y ∷ drop (i + 1) xs) (sym at)

-- the first that passes is this one, or is found later
pub found_here : {A : Type 0} (f : A → Bool) (xs : List A) (i : ℕ) (x : A) → i < length xs → x ≡ get_or xs i x → f x ≡ true → find f (drop i xs) ≡ Some x
found_here f xs i x lt at e = ap (find f) (rest_at xs i x lt at) ∙ find_at f x (drop (i + 1) xs) true e

pub found_later : {A : Type 0} (f : A → Bool) (xs : List A) (i : ℕ) (x : A) → i < length xs → x ≡ get_or xs i x → f x ≡ false → find f (drop i xs) ≡ find f (drop (i + 1) xs)
found_later f xs i x lt at e = ap (find f) (rest_at xs i x lt at) ∙ find_at f x (drop (i + 1) xs) false e
