-- The turn of a job that is to run.
use Rattle.std.proofs.Common.{◌≡◌, ℕ, zero, suc, true, List, [], ◌∷◌, zip, refl, ap, sym, ◌∙◌, Option, Some, None, true≢false}
use Rattle.std.specs.Prelude.{slice_get}
use Rattle.smk_flow.specs.declared.job.Job.{Job}
use Rattle.smk_store.specs.Images.{Image}
use Rattle.smk_trigger.specs.declared.reason.State.{State}
use Rattle.smk_trigger.specs.declared.reason.State.TheVariants.{Open, Dirty, Restore, Clean}
use Rattle.smk_trigger.specs.JobStates.{is_to_run}
use Rattle.smk_plan.specs.declared.duty.Duty.{Duty}
use Rattle.smk_plan.specs.declared.duty.Duty.TheVariants.{Rest, Restore as Again, Run}
use Rattle.smk_run.specs.Duties.{due_from}
use Rattle.smk_run.specs.Runs.{AreInOrder}
use Rattle.smk_run.specs.Turns.{Turn, is_done}
use Rattle.smk_plan_duties.specs.Meaning.{IsMeant, AreMeant}
use Rattle.smk_make.specs.After.{due_before, is_due, is_due_at, is_turn_done}

pub done_turn : (o : Option Turn) → is_turn_done o ≡ true → (t : Turn) × (o ≡ Some t) × (is_done t.course ≡ true)
done_turn None h = absurd (true≢false (sym h))
done_turn (Some t) h = (t, refl, h)

same_some : {A : Type 0} (a b : A) → Some a ≡ Some b → a ≡ b
same_some a b h = cc

none_some : {A : Type 0} (a : A) → ◌≡◌ {A = Option A} None (Some a) → ⊥
none_some a h = cc

is_its_duty : (image : Image) (j : Job) (s : State) (d : Duty) → IsMeant image j s d → is_to_run s ≡ true → is_due d ≡ true
is_its_duty image j Open d meant run = absurd (true≢false (sym run))
is_its_duty image j Clean d meant run = absurd (true≢false (sym run))
is_its_duty image j (Dirty rs) d meant run = ap is_due meant
is_its_duty image j Restore d (m, kept, meant) run = ap is_due meant

-- the job of this number is due, and the turn that comes after those of the jobs before it is its own
pub record HasTurn (duties : List Duty) (ts : List Turn) (n : ℕ) (j : Job) : Type 0 where
  pub due : is_due_at duties n ≡ true
  pub own : (t : Turn) → slice_get ts (due_before duties n) ≡ Some t → t.job ≡ j

module _ (image : Image) (serial : ℕ → Option ℕ) (cores : ℕ) where
  pub has_turn :
      (offset : ℕ) (jobs : List Job) (states : List State) (duties : List Duty) (ts : List Turn) (n : ℕ) (j : Job) (s : State) →
      AreMeant image jobs states duties →
      AreInOrder cores (due_from serial offset duties jobs) ts → slice_get (zip jobs states) n ≡ Some (j, s) → is_to_run s ≡ true → HasTurn duties ts n j
  has_turn offset [] states duties ts n j s meant order at run = absurd (none_some (j, s) at)
  has_turn offset (x ∷ jobs) [] duties ts n j s meant order at run = absurd (none_some (j, s) at)
  has_turn offset (x ∷ jobs) (u ∷ states) [] ts n j s meant order at run = absurd meant
  has_turn offset (x ∷ jobs) (u ∷ states) (d ∷ duties) ts zero j s meant order at run =
      let same = same_some (x, u) (j, s) at in
      let is_due_now : is_due d ≡ true = is_its_duty image x u d meant.0 (ap (λ (e : Job × State). is_to_run e.1) same ∙ run) in
      record { due = is_due_now; own = λ t here. first d ts is_due_now order t here ∙ ap (λ (e : Job × State). e.0) same }
    where
      first : (d : Duty) (ts : List Turn) → is_due d ≡ true → AreInOrder cores (due_from serial offset (d ∷ duties) (x ∷ jobs)) ts → (t : Turn) → slice_get ts zero ≡ Some t → t.job ≡ x
      first (Rest m) ts due order t here = absurd (true≢false (sym due))
      first (Again m) [] due order t here = absurd (none_some t here)
      first (Again m) (z ∷ ts) due order t here = ap (λ (y : Turn). y.job) (sym (same_some z t here)) ∙ order.0
      first Run [] due order t here = absurd (none_some t here)
      first Run (z ∷ ts) due order t here = ap (λ (y : Turn). y.job) (sym (same_some z t here)) ∙ order.0
  has_turn offset (x ∷ jobs) (u ∷ states) (d ∷ duties) ts (suc n) j s meant order at run = later d order (λ us order. has_turn (suc offset) jobs states duties us n j s meant.1 order at run)
    where
      later :
          (d : Duty) → AreInOrder cores (due_from serial offset (d ∷ duties) (x ∷ jobs)) ts →
          ((us : List Turn) → AreInOrder cores (due_from serial (suc offset) duties jobs) us → HasTurn duties us n j) → HasTurn (d ∷ duties) ts (suc n) j
      later (Rest m) order rest = let r = rest ts order in record { due = r.due; own = r.own }
      later (Again m) order rest = passed ts order rest
        where
          passed :
              (ts : List Turn) → AreInOrder cores (due_from serial offset (Again m ∷ duties) (x ∷ jobs)) ts →
              ((us : List Turn) → AreInOrder cores (due_from serial (suc offset) duties jobs) us → HasTurn duties us n j) → HasTurn (Again m ∷ duties) ts (suc n) j
          passed [] order rest = record { due = (rest [] tt).due; own = λ t here. absurd (none_some t here) }
          passed (z ∷ us) order rest = let r = rest us order.4 in record { due = r.due; own = r.own }
      later Run order rest = passed ts order rest
        where
          passed :
              (ts : List Turn) → AreInOrder cores (due_from serial offset (Run ∷ duties) (x ∷ jobs)) ts →
              ((us : List Turn) → AreInOrder cores (due_from serial (suc offset) duties jobs) us → HasTurn duties us n j) → HasTurn (Run ∷ duties) ts (suc n) j
          passed [] order rest = record { due = (rest [] tt).due; own = λ t here. absurd (none_some t here) }
          passed (z ∷ us) order rest = let r = rest us order.4 in record { due = r.due; own = r.own }
