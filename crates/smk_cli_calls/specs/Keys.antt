-- What the whole call does for words on the lock and on what is kept of paths.
use Rattle.std.specs.Prelude.{◌≡◌, Bool, true, false, List, [], Option, Result, Err}
use Rattle.smk_world.specs.World.{World}
use Rattle.smk_world.specs.Devices.{Device, Sunk, HasActed}
use Rattle.smk_world.specs.Trees.{Path, Act}
use Rattle.smk_keep_lock.specs.declared.fault.UnlockFault.{UnlockFault}
use Rattle.smk_keep_lock.specs.Putting.{Put, IsWholeFor}
use Rattle.smk_keep_lock.specs.Unlocking.{HasRemoved, of_unlock, unlock_status}
use Rattle.smk_keep_lock.specs.Unlocking as unlocking
use Rattle.smk_keep_forget.specs.declared.fault.ForgetFault.{ForgetFault}
use Rattle.smk_keep_forget.specs.Answers.{of_forget, forget_status}
use Rattle.smk_keep_forget.specs.Answers as forgetting
use Rattle.smk_keep_forget.specs.Cleaning.{HasCleaned}
use Rattle.smk_keep_forget.specs.Seen.{seen, forgotten_lines}
use Rattle.smk_words_reading.specs.declared.asked.Asked.{Asked as Request}
use Rattle.smk_words_reading.specs.declared.asked.Asked.TheVariants.{Unlock, Forget}
use Rattle.smk_report.specs.declared.fault.Fault.{Fault}
use Rattle.smk_report.specs.declared.fault.Fault.TheVariants as fault
use Rattle.smk_report.specs.Lines.{unlocked_line}
use Rattle.smk_plan_preview.specs.Faults.{as_call}
use Rattle.smk_cli_calls.specs.Ends.{fault_of}
use Rattle.smk_cli_calls.specs.Lines.{IsOutcome}

module _ (act : Act) (answer : Result (Unit {0}) Fault) (old new : Device) (out_old out_new : Sunk) where
  -- The lock was removed, and its line was put, or a front of it.
  pub record DidUnlock : Type 0 where
    pub result : Result (Unit {0}) UnlockFault
    pub answer_is : answer ≡ as_call of_unlock result
    pub acted : HasActed act (HasRemoved result) old new (unlocking.is_device result)
    pub told : Put out_old out_new (IsWholeFor (unlock_status result) unlocked_line)

  -- What is kept of the paths was removed, of one after another, and their lines were put, or a front of them; none where a lock stands that is heeded.
  pub record DidForget (w : World) (paths : List Path) (nolock : Bool) : Type 0 where
    pub result : Result (Unit {0}) ForgetFault
    pub answer_is : answer ≡ as_call of_forget result
    pub acted : HasActed act (HasCleaned paths nolock result) old new (forgetting.is_device result)
    pub told : Put out_old out_new (IsWholeFor (forget_status result) (forgotten_lines (seen w) [] paths))
    pub unput : nolock ≡ false → (seen w).locked ≡ true → Put out_old out_new (λ text. text ≡ [])

  -- What is done for such a request.
  pub data Keeps (w : World) : Request → Type 0 where
    -- nothing, since memory was wanting
    NoMemory : (request : Request) → answer ≡ Err fault.OutOfMemory → new ≡ old → out_new ≡ out_old → Keeps w request
    Unlocks : DidUnlock → Keeps w Unlock
    Forgets : (paths : List Path) (nolock : Bool) → DidForget w paths nolock → Keeps w (Forget paths nolock)

-- What the call did for this request, and its fault: that of the answer, or want of memory in place of it.
pub record HasKept (act : Act) (request : Request) (w : World) (told : Option Fault) (old new : Device) (out_old out_new : Sunk) : Type 0 where
  pub answer : Result (Unit {0}) Fault
  pub told_is : IsOutcome (fault_of answer) told
  pub keeps : Keeps act answer old new out_old out_new w request
