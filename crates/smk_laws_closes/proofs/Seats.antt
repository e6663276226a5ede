-- One child less among those of the device, each with a number of its own.
use Rattle.std.proofs.Common.{◌≡◌, ◌⊎◌, ℕ, Bool, true, false, not, List, [], ◌∷◌, ◌++◌, refl, sym, ap, subst, ◌∙◌, inl, inr, arith, eqb-true, eq-eqb, nat_eq, Option, Some, None}
use Rattle.std.specs.Prelude.{Contains, if◌then◌else◌}
use Rattle.std.specs.List.{AllByRecursion, IsDistinct}
use Rattle.std.proofs.lemmas.List.Elements.{Contains-append_cases, Contains-append_left, Contains-append_right, Contains-push_cases}
use Rattle.smk_world.specs.World.{without_number}
use Rattle.smk_drive_step.specs.declared.children.Child.{Child}
use Rattle.smk_drive_step.specs.Crews.{IsPutFor}
use Rattle.smk_drive_hub.specs.Turned.{AreSeated, numbers_in}

numbers_free : (before after : List (Option Child)) → numbers_in (before ++ None ∷ after) ≡ numbers_in before ++ numbers_in after
numbers_free [] after = refl
numbers_free (None ∷ ps) after = numbers_free ps after
numbers_free (Some c ∷ ps) after = ap (λ ns. c.going.number ∷ ns) (numbers_free ps after)

numbers_taken : (before after : List (Option Child)) (c : Child) → numbers_in (before ++ Some c ∷ after) ≡ numbers_in before ++ c.going.number ∷ numbers_in after
numbers_taken [] after c = refl
numbers_taken (None ∷ ps) after c = numbers_taken ps after c
numbers_taken (Some d ∷ ps) after c = ap (λ ns. d.going.number ∷ ns) (numbers_taken ps after c)

pub none_in : {A : Type 0} (m : ℕ) → Contains [] m → A
none_in m (k, below, e) = absurd (omega (arith, below))

pub only : (n m : ℕ) → Contains (n ∷ []) m → n ≡ m
only n m h =
    elim (Contains-push_cases [] n m h) [
      | inl k ↦ none_in m k
      | inr e ↦ e
    ]

-- ## The numbers that are left

abbrev other : ℕ → ℕ → Bool
other n m = not (nat_eq m n)

is_other : (n m : ℕ) → ¬ (m ≡ n) → other n m ≡ true
is_other n m differ = go (nat_eq m n) refl
  where
    go : (b : Bool) → nat_eq m n ≡ b → not b ≡ true
    go true e = absurd (differ (eqb-true m n e))
    go false e = refl

other_is : (n m : ℕ) → other n m ≡ true → ¬ (m ≡ n)
other_is n m h = λ e. never (sym h ∙ ap not (eq-eqb m n e))
  where
    never : true ≡ false → ⊥
    never k = cc

left_in : (ns : List ℕ) (n m : ℕ) → Contains ns m → ¬ (m ≡ n) → Contains (without_number n ns) m
left_in [] n m h differ = none_in m h
left_in (x ∷ ns) n m h differ = go (other n x) refl (Contains-append_cases (x ∷ []) ns m h) (λ k. left_in ns n m k differ)
  where
    never : true ≡ false → ⊥
    never k = cc

    go :
        (b : Bool) → other n x ≡ b → Contains (x ∷ []) m ⊎ Contains ns m → (Contains ns m → Contains (without_number n ns) m) →
        Contains (if b then x ∷ without_number n ns else without_number n ns) m
    go true e (inl k) rest = Contains-append_left (x ∷ []) (without_number n ns) m k
    go true e (inr k) rest = Contains-append_right (x ∷ []) (without_number n ns) m (rest k)
    go false e (inl k) rest = absurd (never (sym (is_other n x (λ same. differ (sym (only x m k) ∙ same))) ∙ e))
    go false e (inr k) rest = rest k

was_in : (ns : List ℕ) (n m : ℕ) → Contains (without_number n ns) m → Contains ns m × (¬ (m ≡ n))
was_in [] n m h = none_in m h
was_in (x ∷ ns) n m h = go (other n x) refl h (was_in ns n m)
  where
    go :
        (b : Bool) → other n x ≡ b → Contains (if b then x ∷ without_number n ns else without_number n ns) m →
        (Contains (without_number n ns) m → Contains ns m × (¬ (m ≡ n))) → Contains (x ∷ ns) m × (¬ (m ≡ n))
    go true e k rest =
        elim (Contains-append_cases (x ∷ []) (without_number n ns) m k) [
          | inl i ↦ (Contains-append_left (x ∷ []) ns m i, λ same. other_is n x e (only x m i ∙ same))
          | inr i ↦ let r = rest i in (Contains-append_right (x ∷ []) ns m r.0, r.1)
        ]
    go false e k rest = let r = rest k in (Contains-append_right (x ∷ []) ns m r.0, r.1)

-- ## In the midst

more_in : (xs ys : List ℕ) (n m : ℕ) → Contains (xs ++ ys) m → Contains (xs ++ n ∷ ys) m
more_in xs ys n m h =
    elim (Contains-append_cases xs ys m h) [
      | inl k ↦ Contains-append_left xs (n ∷ ys) m k
      | inr k ↦ Contains-append_right xs (n ∷ ys) m (Contains-append_right (n ∷ []) ys m k)
    ]

less_in : (xs ys : List ℕ) (n m : ℕ) → ¬ (m ≡ n) → Contains (xs ++ n ∷ ys) m → Contains (xs ++ ys) m
less_in xs ys n m differ h =
    elim (Contains-append_cases xs (n ∷ ys) m h) [
      | inl k ↦ Contains-append_left xs ys m k
      | inr k ↦ elim (Contains-append_cases (n ∷ []) ys m k) [
        | inl e ↦ absurd (differ (sym (only n m e)))
        | inr l ↦ Contains-append_right xs ys m l
      ]
    ]

all_less : (a n : ℕ) (xs ys : List ℕ) → AllByRecursion (λ y. nat_eq a y ≡ false) (xs ++ n ∷ ys) → AllByRecursion (λ y. nat_eq a y ≡ false) (xs ++ ys)
all_less a n [] ys h = h.1
all_less a n (x ∷ xs) ys h = (h.0, all_less a n xs ys h.1)

distinct_less : (xs ys : List ℕ) (n : ℕ) → IsDistinct nat_eq (xs ++ n ∷ ys) → IsDistinct nat_eq (xs ++ ys)
unfolding IsDistinct
distinct_less [] ys n h = h.1
distinct_less (x ∷ xs) ys n h = (all_less x n xs ys h.0, distinct_less xs ys n h.1)

differs_in : (a m : ℕ) (ys : List ℕ) → AllByRecursion (λ y. nat_eq a y ≡ false) ys → Contains ys m → ¬ (m ≡ a)
differs_in a m [] all h = none_in m h
differs_in a m (y ∷ ys) all h =
    elim (Contains-append_cases (y ∷ []) ys m h) [
      | inl k ↦ λ same. never (sym (eq-eqb a y (sym same ∙ sym (only y m k))) ∙ all.0)
      | inr k ↦ differs_in a m ys all.1 k
    ]
  where
    never : true ≡ false → ⊥
    never k = cc

-- it isn't among the others
others_differ : (xs ys : List ℕ) (n m : ℕ) → IsDistinct nat_eq (xs ++ n ∷ ys) → Contains (xs ++ ys) m → ¬ (m ≡ n)
unfolding IsDistinct
others_differ [] ys n m h i = differs_in n m ys h.0 i
others_differ (x ∷ xs) ys n m h i =
    elim (Contains-append_cases (x ∷ []) (xs ++ ys) m i) [
      | inl k ↦ λ same.
          let e : x ≡ m = only x m k in
          differs_in x n (xs ++ n ∷ ys) h.0 (Contains-append_right xs (n ∷ ys) n (head n ys)) (sym same ∙ sym e)
      | inr k ↦ others_differ xs ys n m h.1 k
    ]
  where
    head : (n : ℕ) (ys : List ℕ) → Contains (n ∷ ys) n
    head n ys = (0, omega arith, refl)

pub seated_less :
    (were are : List (Option Child)) (running : List ℕ) (c : Child) (n : ℕ) → IsPutFor (Some c) None were are → n ≡ c.going.number → AreSeated were running →
    AreSeated are (without_number n running)
seated_less were are running c n put number seats =
    let front = numbers_in put.before in
    let back = numbers_in put.after in
    let x = c.going.number in
    let was : numbers_in were ≡ front ++ x ∷ back = ap numbers_in put.were_so ∙ numbers_taken put.before put.after c in
    let is : numbers_in are ≡ front ++ back = ap numbers_in put.are_so ∙ numbers_free put.before put.after in
    let apart = subst (IsDistinct nat_eq) was seats.distinct in
    record {
      seated = λ m h.
          let r = was_in running n m h in
          subst (λ ns. Contains ns m) (sym is) (less_in front back x m (λ e. r.1 (e ∙ sym number)) (subst (λ ns. Contains ns m) was (seats.seated m r.0)));
      runs = λ m h.
          let i = subst (λ ns. Contains ns m) is h in
          left_in running n m (seats.runs m (subst (λ ns. Contains ns m) (sym was) (more_in front back x m i))) (λ e. others_differ front back x m apart i (e ∙ number));
      distinct = subst (IsDistinct nat_eq) (sym is) (distinct_less front back x apart);
    }

-- a child with that number is there
pub is_seated : (places : List (Option Child)) (running : List ℕ) (n : ℕ) → AreSeated places running → Contains running n → Contains (numbers_in places) n
is_seated places running n seats h = seats.seated n h
