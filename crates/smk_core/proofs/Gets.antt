-- Elements by their numbers, after changes.
use Rattle.std.proofs.Common.{◌≡◌, ℕ, zero, suc, ◌+◌, ◌<◌, ◌≢◌, ◌⊎◌, Bool, true, false, List, [], ◌∷◌, ◌++◌, Some, None, length, set, replicate, refl, sym, ap, ◌∙◌, subst, inl, inr, arith}
use Rattle.std.specs.Prelude.{◌==◌}
use Rattle.std.specs.List.{slice_get}
use Rattle.std.proofs.lemmas.Bool.{cases_eq, or_cases, or_left, or_right, eqb-true, eq-eqb}
use Rattle.std.proofs.lemmas.Option.{none-some, same_Some}
use Rattle.smk_core.specs.Indices.{has, is_true, is_true_at}

pub get_some : {X : Type 0} (xs : List X) (i : ℕ) → i < length xs → (x : X) × (slice_get xs i ≡ Some x)
get_some [] i lt = absurd (omega arith)
get_some (x ∷ xs) zero lt = (x, refl)
get_some (x ∷ xs) (suc i) lt = get_some xs i (omega arith)

pub get_set_same : {X : Type 0} (xs : List X) (i : ℕ) (x : X) → i < length xs → slice_get (set xs i x) i ≡ Some x
get_set_same [] i x lt = absurd (omega arith)
get_set_same (y ∷ xs) zero x lt = refl
get_set_same (y ∷ xs) (suc i) x lt = get_set_same xs i x (omega arith)

pub get_set_other : {X : Type 0} (xs : List X) (i j : ℕ) (x : X) → j ≢ i → slice_get (set xs i x) j ≡ slice_get xs j
get_set_other [] i j x ne = refl
get_set_other (y ∷ xs) zero zero x ne = absurd (ne refl)
get_set_other (y ∷ xs) zero (suc j) x ne = refl
get_set_other (y ∷ xs) (suc i) zero x ne = refl
get_set_other (y ∷ xs) (suc i) (suc j) x ne = get_set_other xs i j x (λ e. ne (ap suc e))

pub get_append_left : {X : Type 0} (xs ys : List X) (i : ℕ) → i < length xs → slice_get (xs ++ ys) i ≡ slice_get xs i
get_append_left [] ys i lt = absurd (omega arith)
get_append_left (x ∷ xs) ys zero lt = refl
get_append_left (x ∷ xs) ys (suc i) lt = get_append_left xs ys i (omega arith)

pub get_append_at : {X : Type 0} (xs : List X) (y : X) → slice_get (xs ++ y ∷ []) (length xs) ≡ Some y
get_append_at [] y = refl
get_append_at (x ∷ xs) y = get_append_at xs y

pub get_append_past : {X : Type 0} (xs : List X) (y : X) (i : ℕ) → length xs < i → slice_get (xs ++ y ∷ []) i ≡ None
get_append_past [] y zero lt = absurd (omega arith)
get_append_past [] y (suc i) lt = refl
get_append_past (x ∷ xs) y zero lt = absurd (omega arith)
get_append_past (x ∷ xs) y (suc i) lt = get_append_past xs y i (omega arith)

pub get_replicate : {X : Type 0} (n i : ℕ) (x : X) → i < n → slice_get (replicate n x) i ≡ Some x
get_replicate zero i x lt = absurd (omega arith)
get_replicate (suc n) zero x lt = refl
get_replicate (suc n) (suc i) x lt = get_replicate n i x (omega arith)

-- what stands in a list of one element repeated is that element
pub replicate_get : {X : Type 0} (n i : ℕ) (x y : X) → slice_get (replicate n x) i ≡ Some y → y ≡ x
replicate_get zero i x y e = absurd (none-some y e)
replicate_get (suc n) zero x y e = sym (same_Some x y e)
replicate_get (suc n) (suc i) x y e = replicate_get n i x y e

same_heads : {X : Type 0} (x y : X) (xs ys : List X) → Some x ≡ Some y → xs ≡ ys → x ∷ xs ≡ y ∷ ys
same_heads x y xs ys e d = λ i. same_Some x y e i ∷ d i

pub same_lists : {X : Type 0} (xs ys : List X) → ((i : ℕ) → slice_get xs i ≡ slice_get ys i) → xs ≡ ys
same_lists [] [] h = refl
same_lists [] (y ∷ ys) h = absurd (none-some y (h 0))
same_lists (x ∷ xs) [] h = absurd (none-some x (sym (h 0)))
same_lists (x ∷ xs) (y ∷ ys) h = same_heads x y xs ys (h 0) (same_lists xs ys (λ i. h (suc i)))

-- ## Lists of tests

pub true_within : (tests : List Bool) (j : ℕ) → is_true_at tests j ≡ true → j < length tests
true_within [] j e = cc
true_within (b ∷ tests) zero e = omega arith
true_within (b ∷ tests) (suc j) e = let h : j < length tests = true_within tests j e in omega arith

pub true_set_same : (tests : List Bool) (j : ℕ) (b : Bool) → j < length tests → is_true_at (set tests j b) j ≡ b
true_set_same tests j b lt = ap is_true (get_set_same tests j b lt)

pub true_set_other : (tests : List Bool) (j k : ℕ) (b : Bool) → k ≢ j → is_true_at (set tests j b) k ≡ is_true_at tests k
true_set_other tests j k b ne = ap is_true (get_set_other tests j k b ne)

pub true_replicate : (n j : ℕ) → is_true_at (replicate n false) j ≡ false
true_replicate zero j = refl
true_replicate (suc n) zero = refl
true_replicate (suc n) (suc j) = true_replicate n j

-- ## What a list has

pub has_head : (x : ℕ) (xs : List ℕ) → has (x ∷ xs) x ≡ true
has_head x xs = or_left (x == x) (has xs x) (eq-eqb x x refl)

pub has_tail : (x : ℕ) (xs : List ℕ) (j : ℕ) → has xs j ≡ true → has (x ∷ xs) j ≡ true
has_tail x xs j h = or_right (x == j) (has xs j) h

pub has_cases : (x : ℕ) (xs : List ℕ) (j : ℕ) → has (x ∷ xs) j ≡ true → (x ≡ j) ⊎ (has xs j ≡ true)
has_cases x xs j h = go (or_cases (x == j) (has xs j) h)
  where
    go : ((x == j) ≡ true) ⊎ (has xs j ≡ true) → (x ≡ j) ⊎ (has xs j ≡ true)
    go (inl e) = inl (eqb-true x j e)
    go (inr e) = inr e

has_append_then : (x : ℕ) (xs ys : List ℕ) (j : ℕ) → (has xs j ≡ true) ⊎ (has ys j ≡ true) → (has (x ∷ xs) j ≡ true) ⊎ (has ys j ≡ true)
has_append_then x xs ys j (inl h) = inl (has_tail x xs j h)
has_append_then x xs ys j (inr h) = inr h

has_append_by : (x : ℕ) (xs ys : List ℕ) (j : ℕ) → (has (xs ++ ys) j ≡ true → (has xs j ≡ true) ⊎ (has ys j ≡ true)) → (x ≡ j) ⊎ (has (xs ++ ys) j ≡ true) → (has (x ∷ xs) j ≡ true) ⊎ (has ys j ≡ true)
has_append_by x xs ys j more (inl e) = inl (subst (λ (n : ℕ). has (x ∷ xs) n ≡ true) e (has_head x xs))
has_append_by x xs ys j more (inr h) = has_append_then x xs ys j (more h)

pub has_append : (xs ys : List ℕ) (j : ℕ) → has (xs ++ ys) j ≡ true → (has xs j ≡ true) ⊎ (has ys j ≡ true)
has_append [] ys j h = inr h
has_append (x ∷ xs) ys j h = has_append_by x xs ys j (has_append xs ys j) (has_cases x (xs ++ ys) j h)

has_left_by : (x : ℕ) (xs ys : List ℕ) (j : ℕ) → (has xs j ≡ true → has (xs ++ ys) j ≡ true) → (x ≡ j) ⊎ (has xs j ≡ true) → has (x ∷ xs ++ ys) j ≡ true
has_left_by x xs ys j more (inl e) = subst (λ (n : ℕ). has (x ∷ xs ++ ys) n ≡ true) e (has_head x (xs ++ ys))
has_left_by x xs ys j more (inr h) = has_tail x (xs ++ ys) j (more h)

pub has_left : (xs ys : List ℕ) (j : ℕ) → has xs j ≡ true → has (xs ++ ys) j ≡ true
has_left [] ys j h = cc
has_left (x ∷ xs) ys j h = has_left_by x xs ys j (has_left xs ys j) (has_cases x xs j h)

pub has_right : (xs ys : List ℕ) (j : ℕ) → has ys j ≡ true → has (xs ++ ys) j ≡ true
has_right [] ys j h = h
has_right (x ∷ xs) ys j h = has_tail x (xs ++ ys) j (has_right xs ys j h)

-- one more at the end
pub has_last : (xs : List ℕ) (y : ℕ) → has (xs ++ y ∷ []) y ≡ true
has_last xs y = has_right xs (y ∷ []) y (has_head y [])

pub has_get : (xs : List ℕ) (i x : ℕ) → slice_get xs i ≡ Some x → has xs x ≡ true
has_get [] i x e = absurd (none-some x e)
has_get (y ∷ xs) zero x e = subst (λ (n : ℕ). has (y ∷ xs) n ≡ true) (same_Some y x e) (has_head y xs)
has_get (y ∷ xs) (suc i) x e = has_tail y xs x (has_get xs i x e)

-- all numbers below one more
pub has_more : (xs ys : List ℕ) (m n : ℕ) → m ≡ n → ((j : ℕ) → j < n → has xs j ≡ true) → ys ≡ xs ++ m ∷ [] → (j : ℕ) → j < n + 1 → has ys j ≡ true
has_more xs ys m n same h e j lt = go (cases_eq j n)
  where
    go : (j ≡ n) ⊎ (j ≢ n) → has ys j ≡ true
    go (inl d) = ap (λ (l : List ℕ). has l j) e ∙ subst (λ (k : ℕ). has (xs ++ m ∷ []) k ≡ true) (same ∙ sym d) (has_last xs m)
    go (inr ne) = ap (λ (l : List ℕ). has l j) e ∙ has_left xs (m ∷ []) j (h j (omega arith))
