-- One job after another is said to need the job or not.
use native.Mathlib.Omega.{arith}
use Rattle.std.proofs.Common.{◌≡◌, ◌<◌, ◌+◌, ◌⊎◌, ℕ, zero, suc, Bool, true, false, ◌||◌, List, [], ◌∷◌, ◌++◌, length, inl, inr, refl, sym, ap, subst, ◌∙◌}
use Rattle.std.specs.Prelude.{get_or, nat_eq}
use Rattle.std.proofs.lemmas.Bool.{eqb-true, eq-eqb, or_right, false≢true}
use Rattle.std.specs.List.{list_any}
use Rattle.std.proofs.Math.Numerals.{suc-eq-add-one}
use Rattle.smk_world.specs.Trees.{IsIn}
use Rattle.smk_plan_duties.specs.Needs.{Needs, Itself, Through, Says, AreEarlier, before_at, answer_at}

-- the first n of these jobs are told of
pub record AreTold (befores : List (List ℕ)) (k n : ℕ) (found : List Bool) : Type 0 where
  pub each : length found ≡ n
  pub right : (i : ℕ) → i < n → Says (Needs befores k i) (get_or found i false)

-- ## Elements of lists

pub got_before : (xs : List Bool) (y : Bool) (n : ℕ) → n < length xs → get_or (xs ++ y ∷ []) n false ≡ get_or xs n false
got_before [] y n lt = absurd (omega (arith, lt))
got_before (x ∷ xs) y zero lt = refl
got_before (x ∷ xs) y (suc n) lt = got_before xs y n (omega (arith, lt))

pub got_last : (xs : List Bool) (y : Bool) (n : ℕ) → length xs ≡ n → get_or (xs ++ y ∷ []) n false ≡ y
got_last [] y zero e = refl
got_last [] y (suc n) e = absurd (omega (arith, e))
got_last (x ∷ xs) y zero e = absurd (omega (arith, e))
got_last (x ∷ xs) y (suc n) e = got_last xs y n (omega (arith, e))

-- what is true is there
got_true : (xs : List Bool) (n : ℕ) → get_or xs n false ≡ true → n < length xs
got_true [] n e = absurd (false≢true e)
got_true (x ∷ xs) zero e = omega arith
got_true (x ∷ xs) (suc n) e = let lt : n < length xs = got_true xs n e in omega (arith, lt)

pub pushed : (xs : List Bool) (y : Bool) → length (xs ++ y ∷ []) ≡ suc (length xs)
pushed [] y = refl
pushed (x ∷ xs) y = ap suc (pushed xs y)

found_in : (f : ℕ → Bool) (xs : List ℕ) → list_any f xs ≡ true → (x : ℕ) × IsIn xs x × (f x ≡ true)
found_in f [] e = absurd (false≢true e)
found_in f (x ∷ xs) e = go (f x) refl e (λ h. found_in f xs h)
  where
    go : (b : Bool) → f x ≡ b → b || list_any f xs ≡ true → (list_any f xs ≡ true → (y : ℕ) × IsIn xs y × (f y ≡ true)) → (y : ℕ) × IsIn (x ∷ xs) y × (f y ≡ true)
    go true is h again = (x, inl refl, is)
    go false is h again = let rest = again h in (rest.0, inr rest.1, rest.2)

any_in : (f : ℕ → Bool) (xs : List ℕ) (x : ℕ) → IsIn xs x → f x ≡ true → list_any f xs ≡ true
any_in f [] x i h = absurd i
any_in f (y ∷ xs) x (inl e) h = subst (λ b. b || list_any f xs ≡ true) (sym (subst (λ z. f z ≡ true) e h)) refl
any_in f (y ∷ xs) x (inr i) h = go (f y) (any_in f xs x i h)
  where
    go : (b : Bool) → list_any f xs ≡ true → b || list_any f xs ≡ true
    go true again = refl
    go false again = again

-- ## One more job

eq_same : (n k : ℕ) → nat_eq n k ≡ true → n ≡ k
eq_same n k e = eqb-true n k e

same_eq : (n k : ℕ) → n ≡ k → nat_eq n k ≡ true
same_eq n k e = eq-eqb n k e

needs_now : (befores : List (List ℕ)) (k n : ℕ) (found : List Bool) → AreTold befores k n found → answer_at found (before_at befores n) n k ≡ true → Needs befores k n
needs_now befores k n found told h = go (nat_eq n k) refl h
  where
    go : (b : Bool) → nat_eq n k ≡ b → b || list_any (λ m. get_or found m false) (before_at befores n) ≡ true → Needs befores k n
    go true is h = subst (Needs befores k) (sym (eq_same n k is)) Itself
    go false is h =
        let one = found_in (λ m. get_or found m false) (before_at befores n) h in
        let lt : one.0 < n = subst (λ l. one.0 < l) told.each (got_true found one.0 one.2) in
        Through n one.0 one.1 ((told.right one.0 lt).only_so one.2)

tells_now : (befores : List (List ℕ)) (k n : ℕ) (found : List Bool) → AreEarlier befores → AreTold befores k n found → Needs befores k n → answer_at found (before_at befores n) n k ≡ true
tells_now befores k n found lower told Itself = ap (λ b. b || list_any (λ m. get_or found m false) (before_at befores n)) (same_eq n n refl)
tells_now befores k n found lower told (Through _ m i needs) =
    or_right (nat_eq n k) (list_any (λ j. get_or found j false) (before_at befores n)) (any_in (λ j. get_or found j false) (before_at befores n) m i ((told.right m (lower n m i)).if_so needs))

pub same_or_less : (i n : ℕ) → i < suc n → (i < n) ⊎ (i ≡ n)
same_or_less zero zero lt = inr refl
same_or_less zero (suc n) lt = inl (omega arith)
same_or_less (suc i) zero lt = absurd (omega (arith, lt))
same_or_less (suc i) (suc n) lt = go (same_or_less i n (omega (arith, lt)))
  where
    go : (i < n) ⊎ (i ≡ n) → (suc i < suc n) ⊎ (suc i ≡ suc n)
    go (inl h) = inl (omega (arith, h))
    go (inr e) = inr (ap suc e)

pub told_next : (befores : List (List ℕ)) (k n : ℕ) (answer : Bool) (found : List Bool) → AreEarlier befores → answer ≡ answer_at found (before_at befores n) n k → AreTold befores k n found
    → AreTold befores k (suc n) (found ++ answer ∷ [])
told_next befores k n answer found lower is told = record {
  each = pushed found answer ∙ ap suc told.each;
  right = λ i lt. go i (same_or_less i n lt);
}
  where
    says : Says (Needs befores k n) answer
    says = record {
      only_so = λ h. needs_now befores k n found told (sym is ∙ h);
      if_so = λ needs. is ∙ tells_now befores k n found lower told needs;
    }

    go : (i : ℕ) → (i < n) ⊎ (i ≡ n) → Says (Needs befores k i) (get_or (found ++ answer ∷ []) i false)
    go i (inl lt) = subst (Says (Needs befores k i)) (sym (got_before found answer i (subst (λ l. i < l) (sym told.each) lt))) (told.right i lt)
    go i (inr e) =
        subst (λ j. Says (Needs befores k j) (get_or (found ++ answer ∷ []) j false)) (sym e)
        (subst (Says (Needs befores k n)) (sym (got_last found answer n told.each)) says)

pub none_told : (befores : List (List ℕ)) (k : ℕ) → AreTold befores k 0 []
none_told befores k = record { each = refl; right = λ i lt. absurd (omega (arith, lt)) }

-- the same where the next number is told as a sum
pub told_more : (befores : List (List ℕ)) (k n : ℕ) (answer : Bool) (found after : List Bool) (before : List ℕ) → AreEarlier befores → after ≡ found ++ answer ∷ [] → before ≡ before_at befores n → answer ≡ answer_at found before n k → AreTold befores k n found
    → AreTold befores k (n + 1) after
told_more befores k n answer found after before lower pushed_is is_before is told =
    subst (λ m. AreTold befores k m after) (suc-eq-add-one n)
    (subst (AreTold befores k (suc n)) (sym pushed_is) (told_next befores k n answer found lower (is ∙ ap (λ b. answer_at found b n k) is_before) told))
