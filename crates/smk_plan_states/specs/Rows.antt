-- What is told of jobs at a moment, row by row.
use Rattle.std.specs.Prelude.{◌≡◌, ℕ, Bool, true, false, List, [], ◌∷◌, map, slice_index_or}
use Rattle.std.specs.Borrow.{Bor}
use Rattle.smk_chain.specs.declared.jobs.Jobs.{Jobs}
use Rattle.smk_trigger.specs.declared.reason.Reason.{Reason}
use Rattle.smk_plan.specs.States.{is_forced}
use Rattle.smk_plan.specs.Sights.{whole_outputs, is_whole_made}
use Rattle.smk_plan_states.specs.declared.rows.Own.{Own}
use Rattle.smk_plan_states.specs.declared.rows.Own.TheVariants as flag
use Rattle.smk_plan_states.specs.declared.rows.Rows.{Rows}
use Rattle.smk_plan_states.specs.Judged.{Judging, began, reasons_now, with_states}

-- what is lent
abbrev pub lent : {A : Type 0} → List (Bor A) → List A
lent refs = map (λ r. r.now) refs

-- the list has an element
abbrev pub has_any : {A : Type 0} → List A → Bool
has_any [] = false
has_any (x ∷ xs) = true

-- The flag tells whether there are these reasons, where it tells anything.
abbrev pub FitsOwn : Own → List Reason → Type 0
FitsOwn flag.Unknown reasons = Unit {0}
FitsOwn flag.No reasons = has_any reasons ≡ false
FitsOwn flag.Yes reasons = has_any reasons ≡ true

-- So do the flags of all jobs.
abbrev pub FitOwn : List Own → List (List Reason) → Type 0
FitOwn flags reasons = (n : ℕ) → FitsOwn (slice_index_or flags n flag.Unknown) (slice_index_or reasons n [])

-- the flag of these reasons
abbrev pub own_of : List Reason → Own
own_of [] = flag.No
own_of (r ∷ reasons) = flag.Yes

-- the reasons of the jobs where they are judged, but for the inputs whose job is Dirty; and which of them are forced
abbrev pub reasons_at : Judging → Jobs → List (List Reason)
reasons_at at jobs = map (reasons_now at.image at.settings at.progress jobs) jobs.jobs

abbrev pub forced_at : Judging → Jobs → List Bool
forced_at at jobs = map (is_forced at.image at.settings at.progress (with_states jobs [])) jobs.jobs

-- What the rows tell of the jobs is so where they are judged: which outputs and which paths of makers are whole there; which jobs have reasons but for the inputs whose
-- job is Dirty, where that is told; and for each job whose child runs there is the state that it had when it began.
pub record AreRowsAt (at : Judging) (jobs : Jobs) (rows : Rows) : Type 0 where
  pub outputs : rows.outputs.now ≡ map (whole_outputs at.image) jobs.jobs
  pub makers : rows.makers.now ≡ map (is_whole_made at.image jobs.jobs) jobs.makers
  pub own : FitOwn rows.own.now (reasons_at at jobs)
  pub running : rows.running.now ≡ began at jobs
