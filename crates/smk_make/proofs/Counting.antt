-- How many jobs are done tells which are: all turns but the last one are of jobs that are done.
use native.Mathlib.Omega.{arith}
use Rattle.std.proofs.Common.{◌≡◌, ◌⊎◌, ◌<◌, ◌≤◌, ◌+◌, ℕ, zero, suc, Bool, true, false, cond, List, [], ◌∷◌, inl, inr, refl, sym, ap, subst, ◌∙◌, Option, Some, None, slice_get, true≢false}
use Rattle.std.specs.List.{count_by}
use Rattle.std.proofs.lemmas.List.Recursion.{is_count_by}
use Rattle.std.proofs.lemmas.Option.{same_Some}
use Rattle.smk_flow.specs.declared.job.Job.{Job}
use Rattle.smk_flow.specs.Flows.{Flow}
use Rattle.smk_report.specs.declared.fault.Fault.{Fault}
use Rattle.smk_report.specs.Lines.{Named}
use Rattle.smk_run.specs.declared.ending.Ending.{Ending}
use Rattle.smk_run.specs.declared.ending.Ending.TheVariants.{Good, Status, NoOutput, WrongKind, BadMember}
use Rattle.smk_run.specs.Turns.{Turn, Course, Unbegun, Unstarted, Unclosed, Closed, is_done}
use Rattle.smk_run.specs.Reports.{failure, named}
use Rattle.smk_run.specs.Duties.{Due}
use Rattle.smk_run.specs.Runs.{AreInOrder, course_failure, first_failure, or_later}
use Rattle.smk_make.specs.After.{is_turn_done}
use Rattle.smk_make.specs.Faults.{IsOfJob}

-- the number of turns of jobs that are done
abbrev pub count : List Turn → ℕ
count [] = 0
count (t ∷ ts) = cond (is_done t.course) (1 + count ts) (count ts)

pub counted : (turns : List Turn) → count turns ≡ count_by (λ (t : Turn). is_done t.course) turns
counted = is_count_by count (λ (t : Turn). is_done t.course) refl (λ t ts. refl)

none_done : (ts : List Turn) → ts ≡ [] → count ts ≡ 0
none_done ts e = ap count e

-- a turn that comes so early is of a job that is done
pub below_done : (cores : ℕ) (dues : List Due) (turns : List Turn) → AreInOrder cores dues turns → (n : ℕ) → n < count turns → is_turn_done (slice_get turns n) ≡ true
below_done cores dues [] order n lt = absurd (omega (arith, lt))
below_done cores [] (t ∷ ts) order n lt = absurd order
below_done cores (due ∷ dues) (t ∷ ts) order zero lt = go (is_done t.course) refl order.3 lt
  where
    go : (b : Bool) → is_done t.course ≡ b → (ts ≡ []) ⊎ (is_done t.course ≡ true) → 0 < cond b (1 + count ts) (count ts) → b ≡ true
    go true e last lt = refl
    go false e (inl end) lt = absurd (omega (arith, lt, none_done ts end))
    go false e (inr d) lt = absurd (true≢false (sym d ∙ e))
below_done cores (due ∷ dues) (t ∷ ts) order (suc n) lt = go (is_done t.course) refl order.3 lt (λ less. below_done cores dues ts order.4 n less)
  where
    go : (b : Bool) → is_done t.course ≡ b → (ts ≡ []) ⊎ (is_done t.course ≡ true) → suc n < cond b (1 + count ts) (count ts) → (n < count ts → is_turn_done (slice_get ts n) ≡ true) → is_turn_done (slice_get ts n) ≡ true
    go true e last lt ih = ih (omega (arith, lt))
    go false e (inl end) lt ih = absurd (omega (arith, lt, none_done ts end))
    go false e (inr d) lt ih = absurd (true≢false (sym d ∙ e))

no_turn : (ts : List Turn) (n : ℕ) → ts ≡ [] → is_turn_done (slice_get ts n) ≡ false
no_turn ts n e = ap (λ xs. is_turn_done (slice_get xs n)) e

-- one that comes later is not, or there is none
pub past_done : (cores : ℕ) (dues : List Due) (turns : List Turn) → AreInOrder cores dues turns → (n : ℕ) → count turns ≤ n → is_turn_done (slice_get turns n) ≡ false
past_done cores dues [] order n le = refl
past_done cores [] (t ∷ ts) order n le = absurd order
past_done cores (due ∷ dues) (t ∷ ts) order zero le = go (is_done t.course) le
  where
    go : (b : Bool) → cond b (1 + count ts) (count ts) ≤ 0 → b ≡ false
    go true le = absurd (omega (arith, le))
    go false le = refl
past_done cores (due ∷ dues) (t ∷ ts) order (suc n) le = go (is_done t.course) refl order.3 le (λ less. past_done cores dues ts order.4 n less)
  where
    go : (b : Bool) → is_done t.course ≡ b → (ts ≡ []) ⊎ (is_done t.course ≡ true) → cond b (1 + count ts) (count ts) ≤ suc n → (count ts ≤ n → is_turn_done (slice_get ts n) ≡ false) → is_turn_done (slice_get ts n) ≡ false
    go true e last le ih = ih (omega (arith, le))
    go false e (inl end) le ih = no_turn ts n end
    go false e (inr d) le ih = absurd (true≢false (sym d ∙ e))

-- a turn of a job that isn't done is the last one, and comes after as many as are done
pub undone_is_last : (cores : ℕ) (dues : List Due) (turns : List Turn) → AreInOrder cores dues turns → (n : ℕ) (t : Turn) → slice_get turns n ≡ Some t → is_done t.course ≡ false → n ≡ count turns
undone_is_last cores dues [] order n t e bad = absurd (none_some e)
  where
    none_some : None ≡ Some t → ⊥
    none_some x = cc
undone_is_last cores [] (u ∷ ts) order n t e bad = absurd order
undone_is_last cores (due ∷ dues) (u ∷ ts) order zero t e bad = go (is_done u.course) refl order.3
  where
    the : Some u ≡ Some t → u ≡ t
    the x = cc

    undone : is_done u.course ≡ false
    undone = subst (λ x. is_done x.course ≡ false) (sym (the e)) bad

    go : (b : Bool) → is_done u.course ≡ b → (ts ≡ []) ⊎ (is_done u.course ≡ true) → 0 ≡ cond b (1 + count ts) (count ts)
    go true is last = absurd (true≢false (sym is ∙ undone))
    go false is (inl end) = sym (none_done ts end)
    go false is (inr d) = absurd (true≢false (sym d ∙ undone))
undone_is_last cores (due ∷ dues) (u ∷ ts) order (suc n) t e bad = go (is_done u.course) refl order.3 (undone_is_last cores dues ts order.4 n t e bad)
  where
    none_some : None ≡ Some t → ⊥
    none_some x = cc

    gone : ts ≡ [] → ⊥
    gone end = none_some (sym (ap (λ xs. slice_get xs n) end) ∙ e)

    go : (b : Bool) → is_done u.course ≡ b → (ts ≡ []) ⊎ (is_done u.course ≡ true) → n ≡ count ts → suc n ≡ cond b (1 + count ts) (count ts)
    go true is last ih = omega (arith, ih)
    go false is (inl end) ih = absurd (gone end)
    go false is (inr d) ih = absurd (true≢false (sym d ∙ is))

-- ## The first failure

none_some : (f : Fault) → None ≡ Some f → ⊥
none_some f e = cc

failure_status : (name : Named) (ending : Ending) (f : Fault) → failure name ending ≡ Some f → IsOfJob f
failure_status name Good f e = absurd (none_some f e)
failure_status name (Status n) f e = subst IsOfJob (same_Some _ f e) (refl, refl, refl)
failure_status name (NoOutput p) f e = subst IsOfJob (same_Some _ f e) (refl, refl, refl)
failure_status name (WrongKind p) f e = subst IsOfJob (same_Some _ f e) (refl, refl, refl)
failure_status name (BadMember p) f e = subst IsOfJob (same_Some _ f e) (refl, refl, refl)

course_status : (flow : Flow) (job : Job) (course : Course) (f : Fault) → course_failure flow job course ≡ Some f → IsOfJob f
course_status flow job Unbegun f e = absurd (none_some f e)
course_status flow job Unstarted f e = absurd (none_some f e)
course_status flow job Unclosed f e = absurd (none_some f e)
course_status flow job (Closed ending) f e = failure_status (named flow job) ending f e

or_status : (a b : Option Fault) (f : Fault) → ((g : Fault) → a ≡ Some g → IsOfJob g) → ((g : Fault) → b ≡ Some g → IsOfJob g) → or_later a b ≡ Some f → IsOfJob f
or_status None b f first later e = later f e
or_status (Some x) b f first later e = first f e

-- the fault of a job that failed is one of a job
pub first_status : (flow : Flow) (turns : List Turn) (f : Fault) → first_failure flow turns ≡ Some f → IsOfJob f
first_status flow [] f e = absurd (none_some f e)
first_status flow (t ∷ ts) f e = or_status (course_failure flow t.job t.course) (first_failure flow ts) f (course_status flow t.job t.course) (first_status flow ts) e
