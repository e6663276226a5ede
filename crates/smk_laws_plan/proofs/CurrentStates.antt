-- The states of jobs whose child runs.
use Rattle.std.proofs.Common.{◌≡◌, true, refl, sym, true≢false}
use Rattle.smk_trigger.specs.declared.reason.State.{State}
use Rattle.smk_trigger.specs.declared.reason.State.TheVariants.{Open, Dirty, Restore, Clean}
use Rattle.smk_trigger.specs.JobStates.{is_open, is_dirty, is_clean}
use Rattle.smk_plan.specs.States.{unless_clean}

pub unless_open : (s : State) → is_open (unless_clean s) ≡ is_open s
unless_open Open = refl
unless_open (Dirty rs) = refl
unless_open Restore = refl
unless_open Clean = refl

pub unless_dirty : (s : State) → is_dirty (unless_clean s) ≡ is_dirty s
unless_dirty Open = refl
unless_dirty (Dirty rs) = refl
unless_dirty Restore = refl
unless_dirty Clean = refl

pub unless_never : (s : State) → is_clean (unless_clean s) ≡ true → ⊥
unless_never Open k = true≢false (sym k)
unless_never (Dirty rs) k = true≢false (sym k)
unless_never Restore k = true≢false (sym k)
unless_never Clean k = true≢false (sym k)
