-- What the parts of `--cleanup-metadata` do.
use Rattle.std.specs.Prelude.{◌≡◌, ◌⊎◌, Bool, true, false, List, [], ◌∷◌, ◌++◌, Result, Ok, Err, IfOk}
use Rattle.smk_world.specs.declared.event.Event.{Event}
use Rattle.smk_world.specs.declared.event.Failed.{Failed as Failure}
use Rattle.smk_world.specs.World.{World, run}
use Rattle.smk_world.specs.Trees.{Path}
use Rattle.smk_store.specs.declared.fault.StoreFault.{StoreFault}
use Rattle.smk_store.specs.declared.fault.StoreFault.TheVariants as store
use Rattle.smk_store.specs.Stores.{Known}
use Rattle.smk_report.specs.Lines.{Text}
use Rattle.smk_keep_lock.specs.Locking.{HasReleased}
use Rattle.smk_keep_lock.specs.Putting.{IsPrefix}
use Rattle.smk_keep_forget.specs.declared.fault.ForgetFault.{ForgetFault}
use Rattle.smk_keep_forget.specs.declared.fault.ForgetFault.TheVariants.{Locked, StampSeen, Device, Output, OutOfMemory}
use Rattle.smk_keep_forget.specs.Answers.{is_device}
use Rattle.smk_keep_forget.specs.Turns.{IsStoreBut, IsTurn, HasGone}

-- ## One turn

-- The path's turn came; and where it was forgotten, the store tells what stands but for these paths and this one.
pub record HasTurned (done : List Path) (p : Path) (left : List Known) (answer : Result Bool StoreFault) (w : World) (es : List Event) : Type 0 where
  pub turn : IsTurn w p answer es
  pub but : IfOk answer (λ was_known. IsStoreBut (done ++ p ∷ []) (run w es) left)

-- the same, whichever paths may be gone of the store as it was
abbrev pub TurnsBy : List Known → Path → List Known → Result Bool StoreFault → World → List Event → Type 0
TurnsBy old p left answer w es = (done : List Path) → IsStoreBut done w old → HasTurned done p left answer w es

-- the path was forgotten
abbrev pub IsForgotten : Path → World → List Event → Type 0
IsForgotten p w es = (was_known : Bool) × IsTurn w p (Ok was_known) es

-- A turn with its line, by the answer: it was forgotten; or the line couldn't be put, or made; or its turn ended early.
abbrev pub HasStepped : List Path → Path → List Known → Result (Unit {0}) ForgetFault → World → List Event → Type 0
HasStepped done p left (Ok u) w es = IsForgotten p w es × IsStoreBut (done ++ p ∷ []) (run w es) left
HasStepped done p left (Err Locked) w es = ⊥
HasStepped done p left (Err (StampSeen q)) w es = IsTurn w p (Err (store.StampSeen q)) es
HasStepped done p left (Err Device) w es = IsTurn w p (Err store.Device) es
HasStepped done p left (Err Output) w es = IsForgotten p w es
HasStepped done p left (Err OutOfMemory) w es = IsTurn w p (Err store.OutOfMemory) es ⊎ IsForgotten p w es

-- what was put: the line, a front of it where that failed, or nothing
abbrev pub IsLineFor : Result (Unit {0}) ForgetFault → Text → Text → Type 0
IsLineFor (Ok u) line text = text ≡ line
IsLineFor (Err Locked) line text = text ≡ []
IsLineFor (Err (StampSeen q)) line text = text ≡ []
IsLineFor (Err Device) line text = text ≡ []
IsLineFor (Err Output) line text = IsPrefix text line
IsLineFor (Err OutOfMemory) line text = text ≡ []

-- what a put may answer
abbrev pub IsOfPut : Result (Unit {0}) ForgetFault → Type 0
IsOfPut (Ok u) = Unit {0}
IsOfPut (Err Locked) = ⊥
IsOfPut (Err (StampSeen q)) = ⊥
IsOfPut (Err Device) = ⊥
IsOfPut (Err Output) = Unit {0}
IsOfPut (Err OutOfMemory) = Unit {0}

-- ## Under the lock

-- The paths were forgotten, and then the lock was released, unless a call failed.
pub data HasEnded (paths : List Path) : Result (Unit {0}) ForgetFault → World → List Event → Type 0 where
  Broken : (answer : Result (Unit {0}) ForgetFault) (w : World) (es : List Event) → HasGone paths answer w es → is_device answer ≡ true → HasEnded paths answer w es
  Closed :
      (answer : Result (Unit {0}) ForgetFault) (w : World) (es fs log : List Event) →
      HasGone paths answer w es → is_device answer ≡ false → HasReleased (Ok tt) (run w es) fs → log ≡ es ++ fs → HasEnded paths answer w log
  Unclosed :
      (answer : Result (Unit {0}) ForgetFault) (x : Failure) (w : World) (es fs log : List Event) →
      HasGone paths answer w es → is_device answer ≡ false → HasReleased (Err x) (run w es) fs → log ≡ es ++ fs → HasEnded paths (Err Device) w log
