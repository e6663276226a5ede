-- The turn of a job: how far it came, and by which calls.
use Rattle.std.specs.Prelude.{◌≡◌, ℕ, Bool, true, false, List, [], ◌∷◌, ◌++◌, Result, Ok, Err}
use Rattle.smk_world.specs.declared.event.Event.{Event}
use Rattle.smk_world.specs.declared.event.WorkFault.{WorkFault}
use Rattle.smk_world.specs.declared.event.WorkFault.TheVariants.{Failed as FailedFault, OutOfMemory as MemoryFault}
use Rattle.smk_world.specs.World.{World, run, in_paths}
use Rattle.smk_world.specs.Calls.{started_numbers}
use Rattle.smk_world.specs.Requests.{HasDone, IsCutShort}
use Rattle.smk_record.specs.declared.record.Stamp.{Stamp}
use Rattle.smk_flow.specs.declared.job.Job.{Job}
use Rattle.smk_job.specs.Jobs.{Underway, underway, begin_requests}
use Rattle.smk_job.specs.declared.fault.BeginFault.{BeginFault}
use Rattle.smk_job.specs.declared.fault.BeginFault.TheVariants as begin
use Rattle.smk_run.specs.declared.stop.Stop.{Stop}
use Rattle.smk_run.specs.declared.stop.Stop.TheVariants as stop
use Rattle.smk_run.specs.declared.ending.Ending.{Ending}
use Rattle.smk_run.specs.declared.ending.Ending.TheVariants.{Good, Status, NoOutput, WrongKind, BadMember}
use Rattle.smk_run.specs.Digesting.{HasDigested, HasInputs}
use Rattle.smk_run.specs.Stamps.{Serials}
use Rattle.smk_run.specs.Closings.{HasClosed}

-- How far the turn of a job came.
pub data Course : Type 0 where
  -- nothing was done but looks at inputs and reads of sources
  Unbegun : Course
  -- a call failed before the command was started
  Unstarted : Course
  -- the command was started, and the job wasn't closed: a call failed, or memory was wanting
  Unclosed : Course
  -- the job was closed, and ended so
  Closed : Ending → Course

-- the stamps that were found
abbrev pub found : Result (List Stamp) Stop → List Stamp
found (Ok stamps) = stamps
found (Err stop) = []

-- A job whose turn came: the text of its command, its serial, and what the looks at its inputs and the reads of sources gave, which is their stamps or why there are none.
pub record Turn : Type 0 where
  pub job : Job
  pub command : List ℕ
  pub made : ℕ
  pub looked : Result (List Stamp) Stop
  pub course : Course

-- the turn of the job while its child of this number runs
abbrev pub as_underway : Turn → ℕ → Underway
as_underway t number = underway t.job.recipe t.job.logs (found t.looked) t.made number

-- The job began: all its calls were made, and the last one started a child of this number. Then this was done.
pub record HasBegunAnd (t : Turn) (P : ℕ → World → List Event → Type 0) (w : World) (es : List Event) : Type 0 where
  pub number : ℕ
  pub first : List Event
  pub rest : List Event
  pub events : es ≡ first ++ rest
  pub begun : HasDone (begin_requests t.job.recipe t.job.logs t.command) first
  pub started : started_numbers first ≡ number ∷ []
  pub then_did : P number (run w first) rest

-- what was done once the command had been started
abbrev pub HasGoneOn : Underway → Course → World → List Event → Type 0
HasGoneOn j Unbegun w es = ⊥
HasGoneOn j Unstarted w es = ⊥
HasGoneOn j Unclosed w es = (f : WorkFault) × HasClosed j (Err f) w es
HasGoneOn j (Closed ending) w es = HasClosed j (Ok ending) w es

-- what was done once the inputs had been looked at
abbrev pub HasGone : Turn → Course → World → List Event → Type 0
HasGone t Unbegun w es = es ≡ []
HasGone t Unstarted w es = IsCutShort (begin_requests t.job.recipe t.job.logs t.command) es
HasGone t Unclosed w es = HasBegunAnd t (λ number v fs. HasGoneOn (as_underway t number) Unclosed v fs) w es
HasGone t (Closed ending) w es = HasBegunAnd t (λ number v fs. HasGoneOn (as_underway t number) (Closed ending) v fs) w es

-- the inputs were looked at and have these stamps, and then this was done
pub record HasStampedAnd (made : Serials) (t : Turn) (P : World → List Event → Type 0) (w : World) (es : List Event) : Type 0 where
  pub seen : List Event
  pub rest : List Event
  pub events : es ≡ seen ++ rest
  pub stamped : HasDigested made (in_paths t.job.recipe) (found t.looked) w seen
  pub then_did : P (run w seen) rest

abbrev pub IsTurnBy : Serials → Turn → Course → World → List Event → Type 0
IsTurnBy made t Unbegun w es = HasInputs made (in_paths t.job.recipe) t.looked w es
IsTurnBy made t Unstarted w es = HasStampedAnd made t (HasGone t Unstarted) w es
IsTurnBy made t Unclosed w es = HasStampedAnd made t (HasGone t Unclosed) w es
IsTurnBy made t (Closed ending) w es = HasStampedAnd made t (HasGone t (Closed ending)) w es

-- The turn of a job, of which these are the serials of the products among its inputs.
abbrev pub IsTurn : Serials → Turn → World → List Event → Type 0
IsTurn made t w es = IsTurnBy made t t.course w es

-- one turn after another
abbrev pub AreTurns : Serials → List Turn → World → List Event → Type 0
AreTurns made [] w es = es ≡ []
AreTurns made (t ∷ ts) w es =
    (first : List Event) × (more : List Event) × (es ≡ first ++ more) × IsTurn made t w first × AreTurns made ts (run w first) more

-- the job was closed with all its outputs good
abbrev pub is_good : Ending → Bool
is_good Good = true
is_good (Status n) = false
is_good (NoOutput p) = false
is_good (WrongKind p) = false
is_good (BadMember p) = false

abbrev pub is_done : Course → Bool
is_done Unbegun = false
is_done Unstarted = false
is_done Unclosed = false
is_done (Closed ending) = is_good ending

abbrev pub is_closed : Course → Bool
is_closed Unbegun = false
is_closed Unstarted = false
is_closed Unclosed = false
is_closed (Closed ending) = true

-- something was done besides looks at inputs and reads of sources
abbrev pub is_begun : Course → Bool
is_begun Unbegun = false
is_begun Unstarted = true
is_begun Unclosed = true
is_begun (Closed ending) = true

-- the command was started
abbrev pub is_started : Course → Bool
is_started Unbegun = false
is_started Unstarted = false
is_started Unclosed = true
is_started (Closed ending) = true

-- what was done of this turn once its inputs had been looked at, where it came so far
abbrev pub as_gone : Job → List ℕ → ℕ → List Stamp → Course → World → List Event → Type 0
as_gone job command made stamps course = HasGone (record { job = job; command = command; made = made; looked = Ok stamps; course = course }) course

-- why a job doesn't begin
abbrev pub stop_of : BeginFault → Stop
stop_of (begin.TooLong bytes) = stop.TooLong bytes
stop_of begin.Device = stop.Device
stop_of begin.OutOfMemory = stop.OutOfMemory

-- why a job isn't closed
abbrev pub left_stop : WorkFault → Stop
left_stop FailedFault = stop.Device
left_stop MemoryFault = stop.OutOfMemory
