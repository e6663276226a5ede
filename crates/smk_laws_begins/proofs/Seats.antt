-- One more child among those of the device, each with a number of its own.
use Rattle.std.proofs.Common.{◌≡◌, ℕ, Bool, true, false, List, [], ◌∷◌, ◌++◌, refl, sym, ap, subst, ◌∙◌, inl, inr, arith, eqb-true, nat_eq, Option, Some, None}
use Rattle.std.specs.Prelude.{Contains}
use Rattle.std.specs.List.{AllByRecursion, IsDistinct}
use Rattle.std.proofs.lemmas.List.Elements.{Contains-append_cases, Contains-append_left, Contains-append_right, Contains-push_cases}
use Rattle.smk_drive_step.specs.declared.children.Child.{Child}
use Rattle.smk_drive_step.specs.Crews.{IsPutFor}
use Rattle.smk_drive_hub.specs.Turned.{AreSeated, numbers_in}

numbers_free : (before after : List (Option Child)) → numbers_in (before ++ None ∷ after) ≡ numbers_in before ++ numbers_in after
numbers_free [] after = refl
numbers_free (None ∷ ps) after = numbers_free ps after
numbers_free (Some c ∷ ps) after = ap (λ ns. c.going.number ∷ ns) (numbers_free ps after)

numbers_taken : (before after : List (Option Child)) (c : Child) → numbers_in (before ++ Some c ∷ after) ≡ numbers_in before ++ c.going.number ∷ numbers_in after
numbers_taken [] after c = refl
numbers_taken (None ∷ ps) after c = numbers_taken ps after c
numbers_taken (Some d ∷ ps) after c = ap (λ ns. d.going.number ∷ ns) (numbers_taken ps after c)

contains_head : (m n : ℕ) (ns : List ℕ) → m ≡ n → Contains (m ∷ ns) n
contains_head m n ns e = (0, omega arith, e)

-- one more in the midst
more_in : (xs ys : List ℕ) (n m : ℕ) → Contains (xs ++ ys) m → Contains (xs ++ n ∷ ys) m
more_in xs ys n m h =
    elim (Contains-append_cases xs ys m h) [
      | inl k ↦ Contains-append_left xs (n ∷ ys) m k
      | inr k ↦ Contains-append_right xs (n ∷ ys) m (Contains-append_right (n ∷ []) ys m k)
    ]

itself_in : (xs ys : List ℕ) (n m : ℕ) → n ≡ m → Contains (xs ++ n ∷ ys) m
itself_in xs ys n m e = Contains-append_right xs (n ∷ ys) m (contains_head n m ys e)

-- and one of those is it, or one of the others
less_in : (xs ys ns : List ℕ) (n m : ℕ) → ((x : ℕ) → Contains (xs ++ ys) x → Contains ns x) → Contains (xs ++ n ∷ ys) m → Contains (ns ++ n ∷ []) m
less_in xs ys ns n m others h =
    elim (Contains-append_cases xs (n ∷ ys) m h) [
      | inl k ↦ Contains-append_left ns (n ∷ []) m (others m (Contains-append_left xs ys m k))
      | inr k ↦ elim (Contains-append_cases (n ∷ []) ys m k) [
        | inl e ↦ Contains-append_right ns (n ∷ []) m e
        | inr l ↦ Contains-append_left ns (n ∷ []) m (others m (Contains-append_right xs ys m l))
      ]
    ]

differ : (a n : ℕ) → (a ≡ n → ⊥) → nat_eq a n ≡ false
differ a n other = go (nat_eq a n) refl
  where
    go : (b : Bool) → nat_eq a n ≡ b → b ≡ false
    go true e = absurd (other (eqb-true a n e))
    go false e = refl

all_more : (a n : ℕ) (xs ys : List ℕ) → AllByRecursion (λ y. nat_eq a y ≡ false) (xs ++ ys) → nat_eq a n ≡ false → AllByRecursion (λ y. nat_eq a y ≡ false) (xs ++ n ∷ ys)
all_more a n [] ys h e = (e, h)
all_more a n (x ∷ xs) ys h e = (h.0, all_more a n xs ys h.1 e)

all_new : (n : ℕ) (ys : List ℕ) → ((m : ℕ) → Contains ys m → n ≡ m → ⊥) → AllByRecursion (λ y. nat_eq n y ≡ false) ys
all_new n [] h = tt
all_new n (y ∷ ys) h = (differ n y (h y (contains_head y y ys refl)), all_new n ys (λ m k. h m (Contains-append_right (y ∷ []) ys m k)))

distinct_more : (xs ys : List ℕ) (n : ℕ) → IsDistinct nat_eq (xs ++ ys) → ((m : ℕ) → Contains (xs ++ ys) m → n ≡ m → ⊥) → IsDistinct nat_eq (xs ++ n ∷ ys)
unfolding IsDistinct
distinct_more [] ys n h other = (all_new n ys other, h)
distinct_more (x ∷ xs) ys n h other = (
  all_more x n xs ys h.0 (differ x n (λ e. other x (contains_head x x (xs ++ ys) refl) (sym e))),
  distinct_more xs ys n h.1 (λ m k. other m (Contains-append_right (x ∷ []) (xs ++ ys) m k)),
)

pub seated_more :
    (were are : List (Option Child)) (running : List ℕ) (c : Child) → IsPutFor None (Some c) were are → ¬ (Contains running c.going.number) → AreSeated were running →
    AreSeated are (running ++ c.going.number ∷ [])
seated_more were are running c put new seats =
    let n = c.going.number in
    let front = numbers_in put.before in
    let back = numbers_in put.after in
    let was : numbers_in were ≡ front ++ back = ap numbers_in put.were_so ∙ numbers_free put.before put.after in
    let is : numbers_in are ≡ front ++ n ∷ back = ap numbers_in put.are_so ∙ numbers_taken put.before put.after c in
    record {
      seated = λ m h.
          subst (λ ns. Contains ns m) (sym is)
          (elim (Contains-push_cases running n m h) [
            | inl k ↦ more_in front back n m (subst (λ ns. Contains ns m) was (seats.seated m k))
            | inr e ↦ itself_in front back n m e
          ]);
      runs = λ m h.
          less_in front back running n m (λ x k. seats.runs x (subst (λ ns. Contains ns x) (sym was) k)) (subst (λ ns. Contains ns m) is h);
      distinct =
          subst (IsDistinct nat_eq) (sym is)
          (distinct_more front back n (subst (IsDistinct nat_eq) was seats.distinct)
          (λ m k e. new (subst (Contains running) (sym e) (seats.runs m (subst (λ ns. Contains ns m) (sym was) k)))));
    }
