-- Children in their places.
use Rattle.std.proofs.Common.{◌≡◌, ℕ, zero, suc, ◌<◌, Bool, true, false, ◌||◌, List, [], ◌∷◌, length, refl, sym, ap, subst, ◌∙◌, arith, inl, inr, Option, Some, None}
use Rattle.std.specs.Prelude.{IfSome, MatchOption, is_none, nat_eq, slice_index_or, slice_set}
use Rattle.std.specs.List.{list_any}
use Rattle.std.proofs.lemmas.Bool.{eq-eqb, eqb-true}
use Rattle.smk_base.proofs.Under.{never_both}
use Rattle.smk_world.specs.Trees.{IsIn}
use Rattle.smk_job.specs.Jobs.{Underway}
use Rattle.smk_drive_step.specs.declared.children.Child.{Child}
use Rattle.smk_drive_step.specs.Crews.{IsFoundAt, IsPutFor, goings, is_numbered}

-- what is in a place is the same whatever it would be where there is no such place
same_there : {A : Type 0} (xs : List A) (i : ℕ) (x y : A) → i < length xs → slice_index_or xs i x ≡ slice_index_or xs i y
same_there [] i x y lt = absurd (omega (arith, lt))
same_there (z ∷ xs) zero x y lt = refl
same_there (z ∷ xs) (suc i) x y lt = same_there xs i x y (omega (arith, lt))

put_for : (xs : List (Option Child)) (i : ℕ) (x y : Option Child) → i < length xs → x ≡ slice_index_or xs i x → IsPutFor x y xs (slice_set xs i y)
put_for [] i x y lt is = absurd (omega (arith, lt))
put_for (z ∷ xs) zero x y lt is = record { before = []; after = xs; were_so = ap (λ w. w ∷ xs) (sym is); are_so = refl }
put_for (z ∷ xs) (suc i) x y lt is =
    let rest = put_for xs i x y (omega (arith, lt)) is in
    record { before = z ∷ rest.before; after = rest.after; were_so = ap (λ ws. z ∷ ws) rest.were_so; are_so = ap (λ ws. z ∷ ws) rest.are_so }

passes_there : (test : Option Child → Bool) (xs : List (Option Child)) (i : ℕ) (x : Option Child)
    → IsFoundAt test xs i → x ≡ slice_index_or xs i x → test x ≡ true
passes_there test xs i x found is = ap test (is ∙ same_there xs i x None found.within) ∙ found.passes

-- what was in a free place is nothing
pub was_free : (xs : List (Option Child)) (i : ℕ) (x : Option Child) → IsFoundAt is_none xs i → x ≡ slice_index_or xs i x → x ≡ None
was_free xs i None found is = refl
was_free xs i (Some c) found is = absurd (never_both (is_none (Some c)) (passes_there is_none xs i (Some c) found is) refl)

put_there : (xs new : List (Option Child)) (i : ℕ) (x : Option Child) (c : Child)
    → IsFoundAt is_none xs i → x ≡ slice_index_or xs i x → new ≡ slice_set xs i (Some c)
    → IsPutFor None (Some c) xs new
put_there xs new i x c found is now =
    subst (IsPutFor None (Some c) xs) (sym now)
    (subst (λ o. IsPutFor o (Some c) xs (slice_set xs i (Some c))) (was_free xs i x found is) (put_for xs i x (Some c) found.within is))

-- what was in the free place is answered, so nothing is
pub put_answer : (xs new : List (Option Child)) (i : ℕ) (x : Option Child) (c : Child) (As : Child → Type 0)
    → IsFoundAt is_none xs i → x ≡ slice_index_or xs i x → new ≡ slice_set xs i (Some c)
    → MatchOption x (IsPutFor None (Some c) xs new) As
put_answer xs new i None c As found is now = put_there xs new i None c found is now
put_answer xs new i (Some d) c As found is now = absurd (never_both (is_none (Some d)) (passes_there is_none xs i (Some d) found is) refl)

-- the child that was in the place of its number was taken from there
taken_there : (n : ℕ) (xs new : List (Option Child)) (i : ℕ) (c : Child)
    → IsFoundAt (is_numbered n) xs i → Some c ≡ slice_index_or xs i (Some c) → new ≡ slice_set xs i None
    → (c.going.number ≡ n) × IsPutFor (Some c) None xs new
taken_there n xs new i c found is now = (
  eqb-true c.going.number n (passes_there (is_numbered n) xs i (Some c) found is),
  subst (IsPutFor (Some c) None xs) (sym now) (put_for xs i (Some c) None found.within is),
)

-- what is answered was in the place of its number
pub taken_answer : (n : ℕ) (xs new : List (Option Child)) (i : ℕ) (x : Option Child)
    → IsFoundAt (is_numbered n) xs i → x ≡ slice_index_or xs i x → new ≡ slice_set xs i None
    → IfSome x (λ c. (c.going.number ≡ n) × IsPutFor (Some c) None xs new)
taken_answer n xs new i None found is now = tt
taken_answer n xs new i (Some c) found is now = taken_there n xs new i c found is now

pub some_there : (n : ℕ) (xs : List (Option Child)) (i : ℕ) → IsFoundAt (is_numbered n) xs i → None ≡ slice_index_or xs i None → ⊥
some_there n xs i found is = never_both (is_numbered n None) (passes_there (is_numbered n) xs i None found is) refl

-- no child has the number
pub none_numbered : (n : ℕ) (xs : List (Option Child)) → list_any (is_numbered n) xs ≡ false → (g : Underway) → IsIn (goings xs) g → ¬ (g.number ≡ n)
none_numbered n [] none g here = absurd here
none_numbered n (None ∷ xs) none g here = none_numbered n xs none g here
none_numbered n (Some c ∷ xs) none g (inl same) = λ is.
    never_both (nat_eq c.going.number n || list_any (is_numbered n) xs)
    (ap (λ b. b || list_any (is_numbered n) xs) (eq-eqb c.going.number n (ap (λ (u : Underway). u.number) (sym same) ∙ is))) none
none_numbered n (Some c ∷ xs) none g (inr later) = none_numbered n xs (rest (nat_eq c.going.number n) none) g later
  where
    rest : (b : Bool) → (b || list_any (is_numbered n) xs) ≡ false → list_any (is_numbered n) xs ≡ false
    rest false h = h
    rest true h = absurd (never_both true refl h)
