-- What `--cleanup-metadata` does.
use Rattle.std.specs.Prelude.{◌≡◌, ◌⊎◌, Bool, true, false, List, [], ◌++◌, Result, Ok, Err, IsSome}
use Rattle.smk_world.specs.declared.event.Event.{Event}
use Rattle.smk_world.specs.declared.event.Failed.{Failed as Failure}
use Rattle.smk_world.specs.Calls.{Rose, HasCause}
use Rattle.smk_world.specs.Devices.{Sunk}
use Rattle.smk_world.specs.World.{World, run}
use Rattle.smk_world.specs.Trees.{Path}
use Rattle.smk_keep_lock.specs.Locking.{HasTaken}
use Rattle.smk_keep_forget.specs.declared.fault.ForgetFault.{ForgetFault}
use Rattle.smk_keep_forget.specs.declared.fault.ForgetFault.TheVariants.{Locked, Device, OutOfMemory}
use Rattle.smk_keep_forget.specs.Steps.{HasEnded}
use Rattle.smk_keep_forget.specs.Turns.{HasGone}

-- What came, by whether no lock is heeded, and by the answer: the lock is taken, the paths are forgotten, and it is released.
pub data HasCleaned (paths : List Path) : Bool → Result (Unit {0}) ForgetFault → World → List Event → Type 0 where
  Unheeded : (answer : Result (Unit {0}) ForgetFault) (w : World) (es : List Event) → HasGone paths answer w es → HasCleaned paths true answer w es
  -- there was no memory for the lock's place
  Unmade : (w : World) → HasCleaned paths false (Err OutOfMemory) w []
  Untaken : (x : Failure) (w : World) (es : List Event) → HasTaken (Err x) w es → HasCleaned paths false (Err Device) w es
  Stood : (w : World) (es : List Event) → HasTaken (Ok false) w es → HasCleaned paths false (Err Locked) w es
  Taken :
      (answer : Result (Unit {0}) ForgetFault) (w : World) (es fs log : List Event) →
      HasTaken (Ok true) w es → HasEnded paths answer (run w es) fs → log ≡ es ++ fs → HasCleaned paths false answer w log

-- Whatever was put: what was told stays told unless a put failed; such a fault has its cause; and the count stays, unless the answer tells that
-- a put or the device failed.
pub record HasPutLines (output device : Bool) (old new : Sunk) : Type 0 where
  pub stays : (IsSome old.put → IsSome new.put) ⊎ Rose old.faults new.faults
  pub cause : HasCause old.faults new.faults output
  pub quiet : output ≡ false → device ≡ false → new.faults ≡ old.faults
