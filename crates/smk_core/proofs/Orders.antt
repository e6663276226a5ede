-- Which rank comes first, as an order of numbers.
use Rattle.std.proofs.Common.{◌≡◌, ℕ, ◌<◌, ◌≤◌, ◌⊎◌, Bool, true, false, cond, refl, ◌∙◌, inl, inr, arith, Less, Equal, Greater, is_lt}
use Rattle.std.specs.Prelude.{nat_lt, ◌==◌}
use Rattle.std.specs.Ordering.{ordering_then}
use Rattle.std.proofs.lemmas.Bool.{ltb-true, lt-ltb, eqb-true, eq-eqb, false_from_ne_true}
use Rattle.smk_pick.specs.Picks.{Rank, comes_first}

-- one rank is before another
abbrev pub IsBefore : Rank → Rank → Type 0
IsBefore a b = (a.0 < b.0) ⊎ ((a.0 ≡ b.0) × (a.1 < b.1))

-- ## The test

abbrev lex : Bool → Bool → Bool → Bool → Bool
lex t e u f = is_lt (ordering_then (cond t Less (cond e Equal Greater)) (cond u Less (cond f Equal Greater)))

lex_parts : (t e u f : Bool) → lex t e u f ≡ true → (t ≡ true) ⊎ ((e ≡ true) × (u ≡ true))
lex_parts true e u f h = inl refl
lex_parts false true true f h = inr (refl, refl)
lex_parts false true false true h = cc
lex_parts false true false false h = cc
lex_parts false false u f h = cc

lex_left : (t e u f : Bool) → t ≡ true → lex t e u f ≡ true
lex_left true e u f h = refl
lex_left false e u f h = cc

lex_right : (t e u f : Bool) → e ≡ true → u ≡ true → lex t e u f ≡ true
lex_right true e u f h k = refl
lex_right false true true f h k = refl
lex_right false true false f h k = cc
lex_right false false u f h k = cc

pub first_tells : (a b : Rank) → comes_first a b ≡ true → IsBefore a b
first_tells a b h = go (lex_parts (nat_lt a.0 b.0) (a.0 == b.0) (nat_lt a.1 b.1) (a.1 == b.1) h)
  where
    go : (nat_lt a.0 b.0 ≡ true) ⊎ (((a.0 == b.0) ≡ true) × (nat_lt a.1 b.1 ≡ true)) → IsBefore a b
    go (inl t) = inl (ltb-true a.0 b.0 t)
    go (inr (e, u)) = inr (eqb-true a.0 b.0 e, ltb-true a.1 b.1 u)

pub tells_first : (a b : Rank) → IsBefore a b → comes_first a b ≡ true
tells_first a b (inl t) = lex_left (nat_lt a.0 b.0) (a.0 == b.0) (nat_lt a.1 b.1) (a.1 == b.1) (lt-ltb a.0 b.0 t)
tells_first a b (inr (e, u)) = lex_right (nat_lt a.0 b.0) (a.0 == b.0) (nat_lt a.1 b.1) (a.1 == b.1) (eq-eqb a.0 b.0 e) (lt-ltb a.1 b.1 u)

-- ## An order

before_then : (a b c : Rank) → IsBefore a b → IsBefore b c → IsBefore a c
before_then a b c (inl h) (inl k) = inl (omega arith)
before_then a b c (inl h) (inr (e, k)) = inl (omega arith)
before_then a b c (inr (e, h)) (inl k) = inl (omega arith)
before_then a b c (inr (e, h)) (inr (d, k)) = inr (e ∙ d, omega arith)

not_before : (a : Rank) → IsBefore a a → ⊥
not_before a (inl h) = omega arith
not_before a (inr (e, h)) = omega arith

pub first_self : (a : Rank) → comes_first a a ≡ false
first_self a = false_from_ne_true (comes_first a a) (λ h. not_before a (first_tells a a h))

-- what isn't before a rank isn't before one that comes first of the two
pub first_kept : (a b c : Rank) → comes_first a b ≡ false → comes_first c b ≡ true → comes_first a c ≡ false
first_kept a b c h k =
    false_from_ne_true (comes_first a c)
    (λ (d : comes_first a c ≡ true). let e : comes_first a b ≡ true = tells_first a b (before_then a c b (first_tells a c d) (first_tells c b k)) in cc)

sooner : (p k h : ℕ) (b : Rank) → h ≤ k → IsBefore (p, k) b → IsBefore (p, h) b
sooner p k h b le (inl lt) = inl lt
sooner p k h b le (inr (e, lt)) = inr (e, omega arith)

-- a later job of the same priority comes no sooner
pub first_later : (p k h : ℕ) (b : Rank) → h ≤ k → comes_first (p, h) b ≡ false → comes_first (p, k) b ≡ false
first_later p k h b le f =
    false_from_ne_true (comes_first (p, k) b)
    (λ (d : comes_first (p, k) b ≡ true). let e : comes_first (p, h) b ≡ true = tells_first (p, h) b (sooner p k h b le (first_tells (p, k) b d)) in cc)
