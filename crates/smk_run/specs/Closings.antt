-- How a job is closed whose child runs.
use Rattle.std.specs.Prelude.{◌≡◌, ◌≢◌, ◌⊎◌, ℕ, List, [], ◌∷◌, Result, Ok, Err}
use Rattle.smk_world.specs.declared.event.Call.TheVariants.{Waited}
use Rattle.smk_world.specs.declared.event.Change.{Change}
use Rattle.smk_world.specs.declared.event.Ended.{Ended}
use Rattle.smk_world.specs.declared.event.Event.{Event}
use Rattle.smk_world.specs.declared.event.Failed.{Failed}
use Rattle.smk_world.specs.declared.event.WorkFault.{WorkFault}
use Rattle.smk_world.specs.declared.event.WorkFault.TheVariants.{Failed as FailedFault, OutOfMemory as MemoryFault}
use Rattle.smk_world.specs.World.{World, after}
use Rattle.smk_world.specs.Requests.{HasDone, IsCutShort}
use Rattle.smk_job.specs.declared.fault.CloseFault.{CloseFault}
use Rattle.smk_job.specs.declared.fault.CloseFault.TheVariants as fault
use Rattle.smk_job.specs.Jobs.{Underway, abandon_requests}
use Rattle.smk_job.specs.Sights.{HasFinished}
use Rattle.smk_run.specs.declared.ending.Ending.{Ending}
use Rattle.smk_run.specs.declared.ending.Ending.TheVariants.{Good, Status, NoOutput, WrongKind, BadMember}

abbrev pub wait_event : Ended → List Change → Event
wait_event ended left = record { call = Waited (Ok ended); left = left }

-- the child was waited for and ended with a status, and by that this was done
pub record HasWaited (number : ℕ) (P : ℕ → World → List Event → Type 0) (w : World) (es : List Event) : Type 0 where
  pub ended : Ended
  pub left : List Change
  pub rest : List Event
  pub events : es ≡ wait_event ended left ∷ rest
  pub is_it : ended.number ≡ number
  pub then_did : P ended.status (after w (wait_event ended left)) rest

-- the wait failed
abbrev pub IsUnwaited : List Event → Type 0
IsUnwaited es = (e : Failed) × (es ≡ record { call = Waited (Err e); left = [] } ∷ [])

-- After status 0 the job was finished, after another one abandoned.
abbrev pub IsClosedBy : Underway → Ending → ℕ → World → List Event → Type 0
IsClosedBy j Good status w es = (status ≡ 0) × HasFinished j (Ok tt) w es
IsClosedBy j (Status n) status w es = (n ≡ status) × (status ≢ 0) × HasDone (abandon_requests j) es
IsClosedBy j (NoOutput p) status w es = (status ≡ 0) × HasFinished j (Err (fault.NoOutput p)) w es
IsClosedBy j (WrongKind p) status w es = (status ≡ 0) × HasFinished j (Err (fault.WrongKind p)) w es
IsClosedBy j (BadMember p) status w es = (status ≡ 0) × HasFinished j (Err (fault.BadMember p)) w es

-- It wasn't closed: a call failed, or there was no memory for what is under a directory output.
abbrev pub IsLeftBy : Underway → WorkFault → ℕ → World → List Event → Type 0
IsLeftBy j FailedFault status w es = ((status ≡ 0) × HasFinished j (Err fault.Device) w es) ⊎ ((status ≢ 0) × IsCutShort (abandon_requests j) es)
IsLeftBy j MemoryFault status w es = (status ≡ 0) × HasFinished j (Err fault.OutOfMemory) w es

-- what was done once the child had ended with this status
abbrev pub HasSettled : Underway → Result Ending WorkFault → ℕ → World → List Event → Type 0
HasSettled j (Ok ending) status w es = IsClosedBy j ending status w es
HasSettled j (Err f) status w es = IsLeftBy j f status w es

-- The child was waited for, and then the job was closed so, or wasn't; or the wait failed.
abbrev pub HasClosed : Underway → Result Ending WorkFault → World → List Event → Type 0
HasClosed j (Ok ending) w es = HasWaited j.number (HasSettled j (Ok ending)) w es
HasClosed j (Err f) w es = ((f ≡ FailedFault) × IsUnwaited es) ⊎ HasWaited j.number (HasSettled j (Err f)) w es

-- how a job ended whose outputs were looked at, or why it wasn't closed
abbrev pub ending_of : Result (Unit {0}) CloseFault → Result Ending WorkFault
ending_of (Ok u) = Ok Good
ending_of (Err (fault.NoOutput p)) = Ok (NoOutput p)
ending_of (Err (fault.WrongKind p)) = Ok (WrongKind p)
ending_of (Err (fault.BadMember p)) = Ok (BadMember p)
ending_of (Err fault.Device) = Err FailedFault
ending_of (Err fault.OutOfMemory) = Err MemoryFault
