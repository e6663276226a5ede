-- What `--unlock` does.
use Rattle.std.specs.Prelude.{◌≡◌, ℕ, Bool, true, false, List, [], ◌∷◌, None, Result, Ok, Err}
use Rattle.smk_base.specs.Place.{lock_place}
use Rattle.smk_world.specs.declared.event.Event.{Event}
use Rattle.smk_world.specs.World.{World, run, reading}
use Rattle.smk_world.specs.Requests.{HasDone, IsCutShort}
use Rattle.smk_store.specs.Steps.{unlock_requests}
use Rattle.smk_report.specs.declared.fault.Fault.{Fault}
use Rattle.smk_report.specs.declared.fault.Fault.TheVariants as fault
use Rattle.smk_report.specs.Faults.{fault_status}
use Rattle.smk_keep_lock.specs.declared.fault.UnlockFault.{UnlockFault}
use Rattle.smk_keep_lock.specs.declared.fault.UnlockFault.TheVariants.{Device, Output, OutOfMemory}
use Rattle.smk_keep_lock.specs.Changing.{ChangesOnly}

-- ## Answers

-- the fault of a call that has this one
abbrev pub of_unlock : UnlockFault → Fault
of_unlock Device = fault.Device
of_unlock Output = fault.Output
of_unlock OutOfMemory = fault.OutOfMemory

-- the status of a call with this answer
abbrev pub unlock_status : {T : Type 0} → Result T UnlockFault → ℕ
unlock_status (Ok t) = 0
unlock_status (Err f) = fault_status (of_unlock f)

abbrev pub is_device : {T : Type 0} → Result T UnlockFault → Bool
is_device (Ok t) = false
is_device (Err Device) = true
is_device (Err Output) = false
is_device (Err OutOfMemory) = false

abbrev pub is_output : {T : Type 0} → Result T UnlockFault → Bool
is_output (Ok t) = false
is_output (Err Device) = false
is_output (Err Output) = true
is_output (Err OutOfMemory) = false

-- ## What is done

-- `--unlock` changes nothing but the lock, and with status 0 there is none.
pub record HasUnlocked (status : ℕ) (entry exit : World) : Type 0 where
  pub only : ChangesOnly (lock_place ∷ []) [] entry exit
  pub unlocked : status ≡ 0 → reading (exit.nodes lock_place) ≡ None

-- the calls that remove the lock: all of them, or up to one that failed, or none
abbrev pub HasCalled : Result (Unit {0}) UnlockFault → List Event → Type 0
HasCalled (Ok u) es = HasDone (unlock_requests (lock_place ∷ [])) es
HasCalled (Err Device) es = IsCutShort (unlock_requests (lock_place ∷ [])) es
HasCalled (Err Output) es = HasDone (unlock_requests (lock_place ∷ [])) es
HasCalled (Err OutOfMemory) es = es ≡ []

-- The lock was removed, by the answer: these calls came, and no more is changed than they say.
pub record HasRemoved (result : Result (Unit {0}) UnlockFault) (entry : World) (log : List Event) : Type 0 where
  pub calls : HasCalled result log
  pub left : HasUnlocked (unlock_status result) entry (run entry log)
