-- Jobs that have their turns, counted.
use native.Mathlib.Omega.{arith}
use Rattle.std.proofs.Common.{◌≡◌, ◌⊎◌, ◌<◌, ◌≤◌, ◌+◌, ◌-◌, ℕ, zero, suc, Bool, true, false, List, [], ◌∷◌, ◌++◌, length, take, filter, cond, inl, inr, refl, sym, ap, subst, ◌∙◌, Some, None, slice_get, nat_lt, true≢false}
use Rattle.std.specs.Prelude.{get_or, if◌then◌else◌}
use Rattle.std.proofs.lemmas.Bool.{ltb-true}
use Rattle.std.proofs.lemmas.Option.{same_Some}
use Rattle.std.proofs.Math.Numerals.{suc-eq-add-one}
use Rattle.smk_plan_duties.proofs.OneMore.{same_or_less, got_before, got_last, pushed}
use Rattle.smk_plan.specs.declared.duty.Duty.{Duty}
use Rattle.smk_plan.specs.declared.duty.Duty.TheVariants.{Rest, Restore, Run}
use Rattle.smk_plan.specs.Duties.{rests}
use Rattle.smk_make.specs.After.{is_due, is_due_one, is_due_at, due_before, left_after, done_after, IsDueAfter, IsDueNumber, is_current_by, AreAfterBy}

-- how many more there are behind a job
abbrev pub more_by : Bool → ℕ → ℕ
more_by b n = cond b (suc n) n

-- one number further
pub before_next : (duties : List Duty) (n : ℕ) (duty : Duty) → slice_get duties n ≡ Some duty → due_before duties (suc n) ≡ more_by (is_due duty) (due_before duties n)
before_next [] n duty e = absurd (none_some e)
  where
    none_some : None ≡ Some duty → ⊥
    none_some x = cc
before_next (d ∷ duties) zero duty e = subst (λ x. due_before (d ∷ duties) 1 ≡ more_by (is_due x) 0) (the e) (go (is_due d))
  where
    the : Some d ≡ Some duty → d ≡ duty
    the x = cc

    go : (b : Bool) → length (cond b (d ∷ []) []) ≡ more_by b 0
    go true = refl
    go false = refl
before_next (d ∷ duties) (suc n) duty e = go (is_due d) (before_next duties n duty e)
  where
    go : (b : Bool) → due_before duties (suc n) ≡ more_by (is_due duty) (due_before duties n)
        → length (cond b (d ∷ filter is_due (take (suc n) duties)) (filter is_due (take (suc n) duties))) ≡ more_by (is_due duty) (length (cond b (d ∷ filter is_due (take n duties)) (filter is_due (take n duties))))
    go false ih = ih
    go true ih = ap suc ih ∙ moved (is_due duty)
      where
        moved : (c : Bool) → suc (more_by c (due_before duties n)) ≡ more_by c (suc (due_before duties n))
        moved true = refl
        moved false = refl

-- a job that has its turn is counted before each later one
pub counted_before : (duties : List Duty) (k n : ℕ) → k < n → is_due_at duties k ≡ true → suc (due_before duties k) ≤ due_before duties n
counted_before [] zero n lt due = absurd (true≢false (sym due))
counted_before [] (suc k) n lt due = absurd (true≢false (sym due))
counted_before (d ∷ duties) zero zero lt due = absurd (omega (arith, lt))
counted_before (d ∷ duties) zero (suc n) lt due = go (is_due d) due
  where
    go : (b : Bool) → b ≡ true → 1 ≤ length (cond b (d ∷ filter is_due (take n duties)) (filter is_due (take n duties)))
    go true e = omega arith
    go false e = absurd (true≢false (sym e))
counted_before (d ∷ duties) (suc k) zero lt due = absurd (omega (arith, lt))
counted_before (d ∷ duties) (suc k) (suc n) lt due = go (is_due d) (counted_before duties k n (omega (arith, lt)) due)
  where
    go : (b : Bool) → suc (due_before duties k) ≤ due_before duties n
        → suc (length (cond b (d ∷ filter is_due (take k duties)) (filter is_due (take k duties)))) ≤ length (cond b (d ∷ filter is_due (take n duties)) (filter is_due (take n duties)))
    go false ih = ih
    go true ih = omega (arith, ih)

order : (a b : ℕ) → (a < b) ⊎ ((a ≡ b) ⊎ (b < a))
order zero zero = inr (inl refl)
order zero (suc b) = inl (omega arith)
order (suc a) zero = inr (inr (omega arith))
order (suc a) (suc b) = go (order a b)
  where
    go : (a < b) ⊎ ((a ≡ b) ⊎ (b < a)) → (suc a < suc b) ⊎ ((suc a ≡ suc b) ⊎ (suc b < suc a))
    go (inl h) = inl (omega (arith, h))
    go (inr (inl e)) = inr (inl (ap suc e))
    go (inr (inr h)) = inr (inr (omega (arith, h)))

-- one job alone has its turn after so many others
pub one_due : (duties : List Duty) (index k n : ℕ) → IsDueAfter duties index k → IsDueAfter duties index n → k ≡ n
one_due duties index k n a b = go (order k n)
  where
    go : (k < n) ⊎ ((k ≡ n) ⊎ (n < k)) → k ≡ n
    go (inr (inl e)) = e
    go (inl lt) = let h = counted_before duties k n lt a.due in let x = a.before in let y = b.before in absurd (omega (arith, h, x, y))
    go (inr (inr lt)) = let h = counted_before duties n k lt b.due in let x = a.before in let y = b.before in absurd (omega (arith, h, x, y))

-- ## The number of a job

-- none of the first n jobs is it
abbrev pub NoneDue : List Duty → ℕ → ℕ → Type 0
NoneDue duties index n = (k : ℕ) → k < n → IsDueAfter duties index k → ⊥

-- nor is the next one
pub none_next : (duties : List Duty) (index n : ℕ) → NoneDue duties index n → ¬ IsDueAfter duties index n → NoneDue duties index (suc n)
none_next duties index n none never k lt h = go (same_or_less k n lt)
  where
    go : (k < n) ⊎ (k ≡ n) → ⊥
    go (inl less) = none k less h
    go (inr e) = never (subst (IsDueAfter duties index) e h)

-- past the end no job has its turn
due_within : (duties : List Duty) (k : ℕ) → is_due_at duties k ≡ true → k < length duties
due_within [] zero e = absurd (true≢false (sym e))
due_within [] (suc k) e = absurd (true≢false (sym e))
due_within (d ∷ duties) zero e = omega arith
due_within (d ∷ duties) (suc k) e = let lt : k < length duties = due_within duties k e in omega (arith, lt)

pub none_at_all : (duties : List Duty) (index : ℕ) → NoneDue duties index (length duties) → IsDueNumber duties index None
none_at_all duties index none k h = none k (due_within duties k h.due) h

-- ## The number that is sought

pub record IsSeeking (duties : List Duty) (index n left : ℕ) : Type 0 where
  pub sum : left + due_before duties n ≡ index
  pub none : NoneDue duties index n

pub seek_first : (duties : List Duty) (index : ℕ) → IsSeeking duties index 0 index
seek_first duties index = record { sum = omega arith; none = λ k lt h. absurd (omega (arith, lt)) }

rests_not : (duties : List Duty) (n : ℕ) (duty : Duty) → slice_get duties n ≡ Some duty → is_due duty ≡ false → is_due_at duties n ≡ true → ⊥
rests_not duties n duty e rests due = true≢false (sym due ∙ ap is_due_one e ∙ rests)

next_left : (duties : List Duty) (index n left rest : ℕ) (duty : Duty) → slice_get duties n ≡ Some duty → IsSeeking duties index n left → is_due duty ≡ true → (if nat_lt left 1 then None else Some (left - 1)) ≡ Some rest → IsSeeking duties index (n + 1) rest
next_left duties index n zero rest duty e h due is = absurd (none_some is)
  where
    none_some : None ≡ Some rest → ⊥
    none_some x = cc
next_left duties index n (suc left) rest duty e h due is =
    let same : left ≡ rest = the (sub left) is in
    let more : due_before duties (suc n) ≡ suc (due_before duties n) = before_next duties n duty e ∙ ap (λ b. more_by b (due_before duties n)) due in
    let sum = h.sum in
    subst (λ m. IsSeeking duties index m rest) (one_more n)
    (record {
      sum = ap (λ b. rest + b) more ∙ omega (arith, sum, same);
      none = none_next duties index n h.none (λ at. let b = at.before in absurd (omega (arith, b, sum)));
    })
  where
    sub : (k : ℕ) → suc k - 1 ≡ k
    sub k = omega arith

    one_more : (k : ℕ) → suc k ≡ k + 1
    one_more k = omega arith

    the : suc left - 1 ≡ left → (if nat_lt (suc left) 1 then None else Some (suc left - 1)) ≡ Some rest → left ≡ rest
    the s x = go (nat_lt (suc left) 1) refl x
      where
        go : (b : Bool) → nat_lt (suc left) 1 ≡ b → (if b then None else Some (suc left - 1)) ≡ Some rest → left ≡ rest
        go true t y = absurd (none_some y)
          where
            none_some : None ≡ Some rest → ⊥
            none_some z = cc
        go false t y = sym s ∙ some_same (suc left - 1) rest y
          where
            some_same : (a b : ℕ) → Some a ≡ Some b → a ≡ b
            some_same a b z = cc

here_due : (duties : List Duty) (index n left : ℕ) (duty : Duty) → slice_get duties n ≡ Some duty → IsSeeking duties index n left → is_due duty ≡ true → (if nat_lt left 1 then None else Some (left - 1)) ≡ None → IsDueAfter duties index n
here_due duties index n zero duty e h due is = record { due = ap is_due_one e ∙ due; before = let sum = h.sum in omega (arith, sum) }
here_due duties index n (suc left) duty e h due is = go (nat_lt (suc left) 1) refl is
  where
    go : (b : Bool) → nat_lt (suc left) 1 ≡ b → (if b then None else Some (suc left - 1)) ≡ None → IsDueAfter duties index n
    go true t y = absurd (no_less t)
      where
        no_less : nat_lt (suc left) 1 ≡ true → ⊥
        no_less z = let lt : suc left < 1 = ltb-true (suc left) 1 z in omega (arith, lt)
    go false t y = absurd (some_none y)
      where
        some_none : Some (suc left - 1) ≡ None → ⊥
        some_none z = cc

-- a job is passed
pub seek_on : (duties : List Duty) (index n left rest : ℕ) (duty : Duty) → slice_get duties n ≡ Some duty → IsSeeking duties index n left → left_after duty left ≡ Some rest → IsSeeking duties index (n + 1) rest
seek_on duties index n left rest (Rest made) e h is =
    let same : left ≡ rest = some_same left rest is in
    let more : due_before duties (suc n) ≡ due_before duties n = before_next duties n (Rest made) e in
    let sum = h.sum in
    subst (λ m. IsSeeking duties index m rest) (one_more n)
    (record {
      sum = ap (λ b. rest + b) more ∙ omega (arith, sum, same);
      none = none_next duties index n h.none (λ at. rests_not duties n (Rest made) e refl at.due);
    })
  where
    one_more : (k : ℕ) → suc k ≡ k + 1
    one_more k = omega arith

    some_same : (a b : ℕ) → Some a ≡ Some b → a ≡ b
    some_same a b z = cc
seek_on duties index n left rest (Restore made) e h is = next_left duties index n left rest (Restore made) e h refl is
seek_on duties index n left rest Run e h is = next_left duties index n left rest Run e h refl is

-- or is the one
pub seek_here : (duties : List Duty) (index n left : ℕ) (duty : Duty) → slice_get duties n ≡ Some duty → IsSeeking duties index n left → left_after duty left ≡ None → IsDueAfter duties index n
seek_here duties index n left (Rest made) e h is = absurd (some_none is)
  where
    some_none : Some left ≡ None → ⊥
    some_none z = cc
seek_here duties index n left (Restore made) e h is = here_due duties index n left (Restore made) e h refl is
seek_here duties index n left Run e h is = here_due duties index n left Run e h refl is

-- past all of them there is none
pub seek_end : (duties : List Duty) (index left : ℕ) → IsSeeking duties index (length duties) left → IsDueNumber duties index None
seek_end duties index left h = none_at_all duties index h.none

-- ## The answer for each job

pub record AreAfterSoFar (duties : List Duty) (spoilt : List Bool) (done n left : ℕ) (after : List Bool) : Type 0 where
  pub each : length after ≡ n
  pub left_is : left ≡ done - due_before duties n
  pub right : (k : ℕ) (duty : Duty) → k < n → slice_get duties k ≡ Some duty → get_or after k false ≡ is_current_by duty spoilt k (done - due_before duties k)

less_by : (done b : ℕ) → done - b - 1 ≡ done - suc b
less_by done b = omega arith

-- how many more jobs are done at the next one
left_next : (duties : List Duty) (done n left : ℕ) (duty : Duty) → slice_get duties n ≡ Some duty → left ≡ done - due_before duties n → done_after duty left ≡ done - due_before duties (suc n)
left_next duties done n left (Rest made) e is = is ∙ ap (λ b. done - b) (sym (before_next duties n (Rest made) e))
left_next duties done n left (Restore made) e is = ap (λ l. l - 1) is ∙ less_by done (due_before duties n) ∙ ap (λ b. done - b) (sym (before_next duties n (Restore made) e))
left_next duties done n left Run e is = ap (λ l. l - 1) is ∙ less_by done (due_before duties n) ∙ ap (λ b. done - b) (sym (before_next duties n Run e))

pub after_next : (duties : List Duty) (spoilt : List Bool) (done n left : ℕ) (after next : List Bool) (b : Bool) (duty : Duty) → AreAfterSoFar duties spoilt done n left after → slice_get duties n ≡ Some duty → b ≡ is_current_by duty spoilt n left
    → next ≡ after ++ b ∷ [] → (later : ℕ) → later ≡ done_after duty left → AreAfterSoFar duties spoilt done (n + 1) later next
after_next duties spoilt done n left after next b duty so at is grown later later_is =
    subst (λ m. AreAfterSoFar duties spoilt done m later next) (suc-eq-add-one n)
    (subst (AreAfterSoFar duties spoilt done (suc n) later) (sym grown)
    (record {
      each = pushed after b ∙ ap suc so.each;
      left_is = later_is ∙ left_next duties done n left duty at so.left_is;
      right = λ k d lt here. go k d here (same_or_less k n lt);
    }))
  where
    go : (k : ℕ) (d : Duty) → slice_get duties k ≡ Some d → (k < n) ⊎ (k ≡ n) → get_or (after ++ b ∷ []) k false ≡ is_current_by d spoilt k (done - due_before duties k)
    go k d here (inl lt) = got_before after b k (subst (λ l. k < l) (sym so.each) lt) ∙ so.right k d lt here
    go k d here (inr e) =
        subst (λ j. get_or (after ++ b ∷ []) j false ≡ is_current_by d spoilt j (done - due_before duties j)) (sym e)
        (got_last after b n so.each ∙ is ∙ ap (λ x. is_current_by x spoilt n left) (same_Some duty d (sym at ∙ subst (λ j. slice_get duties j ≡ Some d) e here)) ∙ ap (is_current_by d spoilt n) so.left_is)

pub none_after : (duties : List Duty) (spoilt : List Bool) (done : ℕ) → AreAfterSoFar duties spoilt done 0 done []
none_after duties spoilt done = record { each = refl; left_is = omega arith; right = λ k duty lt here. absurd (omega (arith, lt)) }

within_duties : (duties : List Duty) (k : ℕ) (duty : Duty) → slice_get duties k ≡ Some duty → k < length duties
within_duties [] k duty e = absurd (none_some e)
  where
    none_some : None ≡ Some duty → ⊥
    none_some z = cc
within_duties (d ∷ duties) zero duty e = omega arith
within_duties (d ∷ duties) (suc k) duty e = let lt : k < length duties = within_duties duties k duty e in omega (arith, lt)

pub all_after : (duties : List Duty) (spoilt : List Bool) (done left : ℕ) (after : List Bool) → AreAfterSoFar duties spoilt done (length duties) left after → AreAfterBy duties spoilt done after
all_after duties spoilt done left after so = record { each = so.each; right = λ n duty here. so.right n duty (within_duties duties n duty here) here }

-- a number within the list has its duty there
pub duty_there : (duties : List Duty) (n : ℕ) (d : Duty) → n < length duties → slice_get duties n ≡ Some (get_or duties n d)
duty_there [] n d lt = absurd (omega (arith, lt))
duty_there (y ∷ duties) zero d lt = refl
duty_there (y ∷ duties) (suc n) d lt = duty_there duties n d (omega (arith, lt))
