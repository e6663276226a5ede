-- The job whose turn is next.
use Rattle.std.proofs.Common.{◌≡◌, ◌⊎◌, ◌≤◌, ◌+◌, ℕ, zero, suc, List, [], ◌∷◌, length, drop, refl, ap, sym, subst, ◌∙◌, inl, inr, Option, Some, None, arith}
use Rattle.std.specs.Prelude.{slice_get}
use Rattle.std.specs.Option.{option_and_then}
use Rattle.std.proofs.lemmas.Option.{same_Some}
use Rattle.std.proofs.Math.Numerals.{add-one}
use Rattle.smk_world.specs.Trees.{Each}
use Rattle.smk_flow.specs.declared.job.Job.{Job}
use Rattle.smk_plan.specs.declared.duty.Duty.{Duty}
use Rattle.smk_plan.specs.declared.duty.Duty.TheVariants.{Rest, Restore, Run}
use Rattle.smk_run.specs.Duties.{Due, due_from, due_serial}

-- ## Lists

-- nothing is left at the place, or this
abbrev Left : {A : Type 0} → List A → ℕ → Type 0
Left {A} xs i = ((slice_get xs i ≡ None) × (drop i xs ≡ []) × (drop (suc i) xs ≡ [])) ⊎ ((x : A) × (slice_get xs i ≡ Some x) × (drop i xs ≡ x ∷ drop (suc i) xs))

left_at : {A : Type 0} (xs : List A) (i : ℕ) → Left xs i
left_at [] zero = inl (refl, refl, refl)
left_at [] (suc i) = inl (refl, refl, refl)
left_at (x ∷ xs) zero = inr (x, refl, refl)
left_at (x ∷ xs) (suc i) = left_at xs i

pub drop_next : {A : Type 0} (xs rest : List A) (i : ℕ) (x : A) → drop i xs ≡ x ∷ rest → drop (suc i) xs ≡ rest
drop_next [] rest zero x h = cc
drop_next [] rest (suc i) x h = cc
drop_next (y ∷ xs) rest zero x h = cc
drop_next (y ∷ xs) rest (suc i) x h = drop_next xs rest i x h

pub got_at : {A : Type 0} (xs rest : List A) (i : ℕ) (x : A) → drop i xs ≡ x ∷ rest → slice_get xs i ≡ Some x
got_at [] rest zero x h = cc
got_at [] rest (suc i) x h = cc
got_at (y ∷ xs) rest zero x h = cc
got_at (y ∷ xs) rest (suc i) x h = got_at xs rest i x h

pub each_at : {A : Type 0} (P : A → Type 0) (xs rest : List A) (i : ℕ) (x : A) → Each P xs → drop i xs ≡ x ∷ rest → P x
each_at P xs rest zero x h e = (subst (Each P) e h).0
each_at P [] rest (suc i) x h e = absurd (no_element x rest e)
  where
    no_element : {A : Type 0} (x : A) (rest : List A) → [] ≡ x ∷ rest → ⊥
    no_element x rest e = cc
each_at P (y ∷ xs) rest (suc i) x h e = each_at P xs rest i x h.1 e

pub none_after : {A : Type 0} (xs : List A) (i : ℕ) → length xs ≤ i → drop i xs ≡ []
none_after [] zero h = refl
none_after [] (suc i) h = refl
none_after (x ∷ xs) zero h = absurd (omega (arith, h))
none_after (x ∷ xs) (suc i) h = none_after xs i (omega (arith, h))

pub all_before : {A : Type 0} (xs : List A) (i : ℕ) → drop i xs ≡ [] → length xs ≤ i
all_before [] i h = omega arith
all_before (x ∷ xs) zero h = cc
all_before (x ∷ xs) (suc i) h = let less = all_before xs i h in omega (arith, less)

-- ## Jobs that are due

no_serial : (serial x : Option ℕ) → None ≡ Some x → ⊥
no_serial serial x h = cc

-- the job of this number rests, or nothing is told of it
pub passed : (serial : ℕ → Option ℕ) (i : ℕ) (duties : List Duty) (jobs js : List Job) (job : Job)
    → option_and_then (due_serial (serial i)) (slice_get duties i) ≡ None → drop i jobs ≡ job ∷ js
    → due_from serial i (drop i duties) (drop i jobs) ≡ due_from serial (suc i) (drop (suc i) duties) js
passed serial i duties jobs js job none at = ap (due_from serial i (drop i duties)) at ∙ go (left_at duties i)
  where
    by : (d : Duty) → slice_get duties i ≡ Some d → drop i duties ≡ d ∷ drop (suc i) duties → due_from serial i (drop i duties) (job ∷ js) ≡ due_from serial (suc i) (drop (suc i) duties) js
    by (Rest made) is e = ap (λ (l : List Duty). due_from serial i l (job ∷ js)) e
    by (Restore made) is e = absurd (no_serial (serial i) (serial i) (sym none ∙ ap (option_and_then (due_serial (serial i))) is))
    by Run is e = absurd (no_serial (serial i) (serial i) (sym none ∙ ap (option_and_then (due_serial (serial i))) is))

    go : Left duties i → due_from serial i (drop i duties) (job ∷ js) ≡ due_from serial (suc i) (drop (suc i) duties) js
    go (inl (gone, none_here, none_later)) =
        ap (λ (l : List Duty). due_from serial i l (job ∷ js)) none_here ∙ ap (λ (l : List Duty). due_from serial (suc i) l js) (sym none_later)
    go (inr (d, is, e)) = by d is e

-- the job of this number is due
pub comes : (serial : ℕ → Option ℕ) (i : ℕ) (duties : List Duty) (jobs js : List Job) (job : Job) (x : Option ℕ)
    → option_and_then (due_serial (serial i)) (slice_get duties i) ≡ Some x → drop i jobs ≡ job ∷ js
    → due_from serial i (drop i duties) (drop i jobs) ≡ record { job = job; serial = x } ∷ due_from serial (suc i) (drop (suc i) duties) js
comes serial i duties jobs js job x some at = ap (due_from serial i (drop i duties)) at ∙ go (left_at duties i)
  where
    by : (d : Duty) → slice_get duties i ≡ Some d → drop i duties ≡ d ∷ drop (suc i) duties
        → due_from serial i (drop i duties) (job ∷ js) ≡ record { job = job; serial = x } ∷ due_from serial (suc i) (drop (suc i) duties) js
    by (Rest made) is e = absurd (no_serial x x (sym (ap (option_and_then (due_serial (serial i))) is) ∙ some))
    by (Restore made) is e =
        ap (λ (l : List Duty). due_from serial i l (job ∷ js)) e
        ∙ ap (λ (s : Option ℕ). record { job = job; serial = s } ∷ due_from serial (suc i) (drop (suc i) duties) js)
        (same_Some (serial i) x (sym (ap (option_and_then (due_serial (serial i))) is) ∙ some))
    by Run is e =
        ap (λ (l : List Duty). due_from serial i l (job ∷ js)) e
        ∙ ap (λ (s : Option ℕ). record { job = job; serial = s } ∷ due_from serial (suc i) (drop (suc i) duties) js)
        (same_Some (serial i) x (sym (ap (option_and_then (due_serial (serial i))) is) ∙ some))

    go : Left duties i → due_from serial i (drop i duties) (job ∷ js) ≡ record { job = job; serial = x } ∷ due_from serial (suc i) (drop (suc i) duties) js
    go (inl (gone, none_here, none_later)) = absurd (no_serial x x (sym (ap (option_and_then (due_serial (serial i))) gone) ∙ some))
    go (inr (d, is, e)) = by d is e

none_due : (serial : ℕ → Option ℕ) (i : ℕ) (duties : List Duty) → due_from serial i duties [] ≡ []
none_due serial i [] = refl
none_due serial i (d ∷ duties) = refl

pub due_left : (serial : ℕ → Option ℕ) (i : ℕ) (duties : List Duty) (jobs : List Job) → length jobs ≤ i → due_from serial i (drop i duties) (drop i jobs) ≡ []
due_left serial i duties jobs h = ap (due_from serial i (drop i duties)) (none_after jobs i h) ∙ none_due serial i (drop i duties)

-- ## The next one by the loop's number

-- the jobs that are due from a number on are those that are left
abbrev pub AreLeft : (ℕ → Option ℕ) → List Duty → List Job → ℕ → ℕ → Type 0
AreLeft serial duties jobs done i = drop done (due_from serial 0 duties jobs) ≡ due_from serial i (drop i duties) (drop i jobs)

pub left_passed : (serial : ℕ → Option ℕ) (duties : List Duty) (jobs : List Job) (done i : ℕ) (job : Job)
    → AreLeft serial duties jobs done i → option_and_then (due_serial (serial i)) (slice_get duties i) ≡ None → drop i jobs ≡ job ∷ drop (i + 1) jobs
    → AreLeft serial duties jobs done (i + 1)
left_passed serial duties jobs done i job left none at =
    left ∙ passed serial i duties jobs (drop (i + 1) jobs) job none at
    ∙ ap (λ k. due_from serial k (drop k duties) (drop (i + 1) jobs)) (sym (add-one i))

-- what is due next, and what after it
pub next_due : (serial : ℕ → Option ℕ) (duties : List Duty) (jobs : List Job) (done i : ℕ) (job : Job) (x : Option ℕ)
    → AreLeft serial duties jobs done i → option_and_then (due_serial (serial i)) (slice_get duties i) ≡ Some x → drop i jobs ≡ job ∷ drop (i + 1) jobs
    → drop done (due_from serial 0 duties jobs) ≡ record { job = job; serial = x } ∷ due_from serial (i + 1) (drop (i + 1) duties) (drop (i + 1) jobs)
next_due serial duties jobs done i job x left some at =
    left ∙ comes serial i duties jobs (drop (i + 1) jobs) job x some at
    ∙ ap (λ k. record { job = job; serial = x } ∷ due_from serial k (drop k duties) (drop (i + 1) jobs)) (sym (add-one i))

pub left_taken : (serial : ℕ → Option ℕ) (duties : List Duty) (jobs : List Job) (done i : ℕ) (due : Due)
    → drop done (due_from serial 0 duties jobs) ≡ due ∷ due_from serial (i + 1) (drop (i + 1) duties) (drop (i + 1) jobs)
    → AreLeft serial duties jobs (done + 1) (i + 1)
left_taken serial duties jobs done i due h =
    ap (λ k. drop k (due_from serial 0 duties jobs)) (add-one done)
    ∙ drop_next (due_from serial 0 duties jobs) (due_from serial (i + 1) (drop (i + 1) duties) (drop (i + 1) jobs)) done due h
