-- Where a run stands between two steps.
use Rattle.std.specs.Prelude.{◌≡◌, ◌≢◌, ℕ, Bool, true, false, not, List, [], ◌∷◌, ◌++◌, map, bytes_eq, nat_eq, if◌then◌else◌, Option, Some, None, IsTrue, filter}
use lib.Pointwise.{pointwise}
use Rattle.smk_world.specs.declared.event.Event.{Event}
use Rattle.smk_world.specs.World.{World, out_paths}
use Rattle.smk_job.specs.Jobs.{Underway}
use Rattle.smk_store.specs.Images.{Image}
use Rattle.smk_chain.specs.Derive.{Listings}
use Rattle.smk_plan.specs.States.{Plan}
use Rattle.smk_report.specs.declared.fault.Fault.{Fault}
use Rattle.smk_report.specs.declared.fault.Fault.TheVariants as fault
use Rattle.smk_drive.specs.Moments.{Rules, Moment, Begun, IsInForce, ending, is_rest, lists_of}
use Rattle.smk_drive.specs.Refusals.{PlansRefuse}
use Rattle.smk_drive_course.specs.Lawful.{NothingLeft}
use Rattle.smk_drive_course.specs.Refusals.{MomentRefuses}

-- The jobs that have begun in this run, in order, each with how its child ended; the children that run, with what it takes to close the
-- job of each; the listings of the plans before the one in force, and that plan; the first fault, after which no job begins; and whether
-- the device has failed, after which children are only waited for.
pub record Stand : Type 0 where
  pub begun : List Begun
  pub runs : List Underway
  pub from : Listings
  pub plan : Option Plan
  pub halted : Option Fault
  pub broken : Bool

-- the listings of all plans in force so far
abbrev pub lists : Stand → Listings
lists s = lists_of s.plan s.from

-- nothing has begun, and this plan is in force, if any
abbrev pub first_stand : Option Plan → Stand
first_stand plan = record { begun = []; runs = []; from = []; plan = plan; halted = None; broken = false }

-- ## What a step leaves

-- the job has begun, and its child runs
abbrev pub with_job : Begun → Underway → Stand → Stand
with_job b going s = record s { begun = s.begun ++ b ∷ []; runs = s.runs ++ going ∷ [] }

-- it is the job whose child this was
abbrev pub is_job_of : Underway → Begun → Bool
is_job_of going b = pointwise bytes_eq (out_paths going.recipe) (out_paths b.job.recipe)

-- the child of this job has ended with that status, where the folder reads so
abbrev pub ended_if : Image → Underway → ℕ → Begun → Begun
ended_if image going status b = if is_job_of going b then (record b { ended = Some (ending image b.job status) }) else b

-- the child of this job doesn't run any more, and ended with that status
abbrev pub without_child : Image → Underway → ℕ → Stand → Stand
without_child image going status s =
    record s { begun = map (ended_if image going status) s.begun; runs = filter (λ (r : Underway). not (nat_eq r.number going.number)) s.runs }

-- this plan is in force, if any, after those before
abbrev pub replanned : Option Plan → Stand → Stand
replanned plan s = record s { from = lists s; plan = plan }

-- the first fault, where this one came after those
abbrev pub first_fault : Option Fault → Fault → Option Fault
first_fault None f = Some f
first_fault (Some g) f = Some g

-- the fault came
abbrev pub halted_by : Fault → Stand → Stand
halted_by f s = record s { halted = first_fault s.halted f }

-- a call of the device failed
abbrev pub broken_by_device : Stand → Stand
broken_by_device s = record (halted_by fault.Device s) { broken = true }

-- ## What is so at a stand

-- the moment of the run that it is, after these events
abbrev pub moment_of : Stand → World → List Event → Moment
moment_of s w events = record { events = events; world = w; begun = s.begun; from = s.from; lists = lists s; plan = s.plan }

module _ (rules : Rules) where
  -- the plan is that of the moment: the last one of the chain from the listings of the plans before, or none where the chain is refused
  abbrev pub IsPlanned : Stand → World → Type 0
  IsPlanned s w = IsInForce rules w s.begun s.from s.plan

  -- Jobs have begun or been closed: at a rest the plan in force is made anew, its chain beginning with the listings of the plans before; and
  -- between two rests it stays.
  pub data IsReplanned (s : Stand) (w : World) : Stand → Type 0 where
    AtRest : (plan : Option Plan) → IsTrue (is_rest w s.begun) → IsPlanned (replanned plan s) w → IsReplanned s w (replanned plan s)
    Between : is_rest w s.begun ≡ false → IsReplanned s w s

  -- No fault has come; each job that has begun is closed, or its child runs; the plan is that of the moment; and no plan of its chain is refused.
  pub record IsClear (s : Stand) (w : World) (events : List Event) : Type 0 where
    pub unhalted : s.halted ≡ None
    pub at_rest : IsTrue (is_rest w s.begun)
    pub planned : IsPlanned s w
    pub unrefused : (f : Fault) → ¬ PlansRefuse rules (moment_of s w events) f

  -- nothing that may start is left
  abbrev pub NoneLeft : Stand → World → List Event → Type 0
  NoneLeft s w events = NothingLeft rules (moment_of s w events)

  -- Something is refused at this moment of a run that began with that world.
  abbrev pub Refuses : World → Stand → World → List Event → Fault → Type 0
  Refuses entry s w events f = MomentRefuses rules entry (moment_of s w events) f

  -- What a run makes of a stand that has come about with these events: it goes on where no fault came before and no plan is refused; or no job
  -- begins any more, by that refusal or for want of memory, or as before.
  pub data GoesBy (entry : World) (s : Stand) (w : World) (events : List Event) : Stand → Type 0 where
    GoesOn : IsClear s w events → GoesBy entry s w events s
    IsRefused : (f : Fault) → s.halted ≡ None → Refuses entry s w events f → GoesBy entry s w events (halted_by f s)
    LacksMemory : GoesBy entry s w events (halted_by fault.OutOfMemory s)
    WasHalted : s.halted ≢ None → GoesBy entry s w events s
