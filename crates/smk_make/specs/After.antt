-- Which jobs are current after a run.
use Rattle.std.specs.Prelude.{◌≡◌, ◌<◌, ℕ, Bool, true, false, not, List, [], take, filter, length, get_or, nat_lt, ◌-◌, slice_get, if◌then◌else◌, Option, Some, None}
use Rattle.smk_plan.specs.declared.duty.Duty.{Duty}
use Rattle.smk_plan.specs.declared.duty.Duty.TheVariants.{Rest, Restore, Run}
use Rattle.smk_run.specs.declared.tally.Tally.{Tally}
use Rattle.smk_plan.specs.Duties.{rests}
use Rattle.smk_run.specs.Turns.{Turn, is_done}
use Rattle.smk_plan_duties.specs.Needs.{Needs, Says, AreNeeding}

-- it has its turn in a run
abbrev pub is_due : Duty → Bool
is_due duty = not (rests duty)

abbrev pub is_due_one : Option Duty → Bool
is_due_one None = false
is_due_one (Some duty) = is_due duty

-- so does the job of this number
abbrev pub is_due_at : List Duty → ℕ → Bool
is_due_at duties n = is_due_one (slice_get duties n)

-- how many jobs have their turns before that of this number
abbrev pub due_before : List Duty → ℕ → ℕ
due_before duties n = length (filter is_due (take n duties))

-- the turn that the job of this number has, if the run came to it
abbrev pub turn_at : List Duty → List Turn → ℕ → Option Turn
turn_at duties turns n = slice_get turns (due_before duties n)

abbrev pub is_turn_done : Option Turn → Bool
is_turn_done None = false
is_turn_done (Some t) = is_done t.course

-- The job of this number had its turn, and isn't done.
pub record IsFailed (duties : List Duty) (turns : List Turn) (k : ℕ) : Type 0 where
  pub due : is_due_at duties k ≡ true
  pub turn : Turn
  pub had : turn_at duties turns k ≡ Some turn
  pub failed : is_done turn.course ≡ false

-- it needs a job that failed, be it through others
abbrev pub NeedsFailed : List (List ℕ) → List Duty → List Turn → ℕ → Type 0
NeedsFailed befores duties turns n = (k : ℕ) × IsFailed duties turns k × Needs befores k n

-- For each job, whether what it makes is current after these turns: a job that was to have its turn, where it is done; one that rests, unless it needs
-- a job that failed.
pub record AreCurrent (befores : List (List ℕ)) (duties : List Duty) (turns : List Turn) (after : List Bool) : Type 0 where
  pub each : length after ≡ length duties
  pub due : (n : ℕ) → is_due_at duties n ≡ true → get_or after n false ≡ is_turn_done (turn_at duties turns n)
  pub rests : (n : ℕ) → n < length duties → is_due_at duties n ≡ false → Says (¬ NeedsFailed befores duties turns n) (get_or after n false)

-- ## How it is found

-- how many more turns come before the one that is sought, once a job with this duty is passed; none where the turn is its own
abbrev pub left_after : Duty → ℕ → Option ℕ
left_after (Rest made) left = Some left
left_after (Restore made) left = if nat_lt left 1 then None else Some (left - 1)
left_after Run left = if nat_lt left 1 then None else Some (left - 1)

-- the job of this number has its turn after so many others
pub record IsDueAfter (duties : List Duty) (index k : ℕ) : Type 0 where
  pub due : is_due_at duties k ≡ true
  pub before : due_before duties k ≡ index

abbrev pub IsDueNumber : List Duty → ℕ → Option ℕ → Type 0
IsDueNumber duties index None = (k : ℕ) → IsDueAfter duties index k → ⊥
IsDueNumber duties index (Some k) = IsDueAfter duties index k

-- the number of the job whose turn came after all those that are done, where one failed
pub record IsFailedNumber (duties : List Duty) (tally : Tally) (number : Option ℕ) : Type 0 where
  pub none : tally.failed ≡ 0 → number ≡ None
  pub some : (tally.failed ≡ 0 → ⊥) → IsDueNumber duties tally.done number

-- which jobs need the one that failed
abbrev pub AreSpoilt : List (List ℕ) → Option ℕ → List Bool → Type 0
AreSpoilt befores None found = found ≡ []
AreSpoilt befores (Some k) found = AreNeeding befores k found

-- how many more jobs are done, once a job with this duty is passed
abbrev pub done_after : Duty → ℕ → ℕ
done_after (Rest made) left = left
done_after (Restore made) left = left - 1
done_after Run left = left - 1

-- a job that was to have its turn is current where more jobs are done, one that rests where it doesn't need the one that failed
abbrev pub is_current_by : Duty → List Bool → ℕ → ℕ → Bool
is_current_by (Rest made) spoilt number left = not (get_or spoilt number false)
is_current_by (Restore made) spoilt number left = nat_lt 0 left
is_current_by Run spoilt number left = nat_lt 0 left

pub record AreAfterBy (duties : List Duty) (spoilt : List Bool) (done : ℕ) (after : List Bool) : Type 0 where
  pub each : length after ≡ length duties
  pub right :
      (n : ℕ) (duty : Duty) → slice_get duties n ≡ Some duty → get_or after n false ≡ is_current_by duty spoilt n (done - due_before duties n)

pub record IsAfter (duties : List Duty) (befores : List (List ℕ)) (tally : Tally) (after : List Bool) : Type 0 where
  pub failed : Option ℕ
  pub is_failed : IsFailedNumber duties tally failed
  pub spoilt : List Bool
  pub are_spoilt : AreSpoilt befores failed spoilt
  pub by_spoilt : AreAfterBy duties spoilt tally.done after
