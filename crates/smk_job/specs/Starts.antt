-- What a function that may start a child did with a device.
use Rattle.std.specs.Prelude.{◌≡◌, ℕ, Bool, false, List, [], ◌∷◌, ◌++◌, Option, Some, None, Result, Ok, Err, IsSome}
use Rattle.smk_world.specs.declared.event.Event.{Event}
use Rattle.smk_world.specs.declared.event.Failed.{Failed}
use Rattle.smk_world.specs.World.{World}
use Rattle.smk_world.specs.Calls.{HasCause}
use Rattle.smk_world.specs.Devices.{Device}
use Rattle.smk_world.specs.Runs.{Did}
use Rattle.smk_world.specs.Trees.{Act}
use Rattle.smk_job.specs.declared.fault.BeginFault.{BeginFault}
use Rattle.smk_job.specs.Jobs.{Underway}

-- the running children with the one that was started, if any
abbrev pub with_child : Option ℕ → List ℕ → List ℕ
with_child None numbers = numbers
with_child (Some number) numbers = numbers ++ number ∷ []

-- Where the world is told now, these events lead to it, which are in P with the world before; it is told on unless the device failed; that has its cause; and the
-- same children run, with the one of this number, if any.
pub record HasStarted (act : Act) (P : World → List Event → Type 0) (child : Option ℕ) (old new : Device) (failure : Bool) : Type 0 where
  pub did : Did act old.world new.world P
  pub stays : failure ≡ false → IsSome old.world → IsSome new.world
  pub cause : HasCause old.faults new.faults failure
  pub running : new.running ≡ with_child child old.running

-- the number of the child that was started
abbrev pub started_child : Result ℕ Failed → Option ℕ
started_child (Ok number) = Some number
started_child (Err e) = None

-- the number of the child of a job that began
abbrev pub begun_child : Result Underway BeginFault → Option ℕ
begun_child (Ok going) = Some going.number
begun_child (Err fault) = None
