-- A run of jobs, one after another, in plan order.
use Rattle.std.specs.Prelude.{◌≡◌, ◌⊎◌, ◌≤◌, ℕ, Bool, true, false, List, [], ◌∷◌, ◌++◌, ◌+◌, length, map, Option, Some, None, slice_get, Result, Ok, Err}
use Rattle.std.specs.List.{count_by}
use Rattle.smk_base.specs.declared.tree.Pair.{Pair}
use Rattle.smk_world.specs.declared.recipe.Recipe.{Recipe}
use Rattle.smk_world.specs.World.{in_paths, out_paths, owned_paths}
use Rattle.smk_world.specs.Calls.{are_apart}
use Rattle.smk_world.specs.Devices.{Device, Sunk, HasEnded}
use Rattle.smk_world.specs.Trees.{Act, Each, is_path_text}
use Rattle.smk_record.specs.Records.{is_valid, record_of, are_rising}
use Rattle.smk_record.specs.Spelling.{is_writable}
use Rattle.smk_flow.specs.declared.job.Job.{Job}
use Rattle.smk_flow.specs.Flows.{Flow}
use Rattle.smk_job.specs.Jobs.{too_long}
use Rattle.smk_report.specs.Lines.{Text, Named}
use Rattle.smk_report.specs.declared.fault.Fault.{Fault}
use Rattle.smk_report.specs.declared.fault.Fault.TheVariants as fault
use Rattle.smk_record.specs.declared.record.Stamp.{Stamp}
use Rattle.smk_run.specs.declared.ending.Ending.{Ending}
use Rattle.smk_run.specs.declared.stop.Stop.{Stop}
use Rattle.smk_run.specs.declared.stop.Stop.TheVariants as stopping
use Rattle.smk_run.specs.declared.tally.Tally.{Tally}
use Rattle.smk_run.specs.Stamps.{Serials, IsBelow}
use Rattle.smk_run.specs.Statuses.{HasGiven}
use Rattle.smk_run.specs.Turns.{Course, Closed, Turn, found, IsTurn, is_begun, is_done, is_closed, AreTurns}
use Rattle.smk_run.specs.Reports.{named, course_text, report_of, HasReported, IsReport, HasTurned, IsAnswer, failure, stop_fault, is_refusal}
pub use Rattle.smk_format.specs.Refused.{command_of, fault_at, job_fault, or_later}
pub use Rattle.smk_plan.specs.Duties.{maker_in}
pub use Rattle.smk_run.specs.Duties.{Due}

-- the command of each job that is due has no fault
abbrev pub AreGood : Flow → ℕ → List Due → Type 0
AreGood flow cores dues = Each (λ (due : Due). job_fault flow cores due.job ≡ None) dues

-- ## Turns

-- The turns are those of the first jobs that are due, in order, each with its command and its serial. Only the last of them may be of a job that
-- isn't done.
abbrev pub AreInOrder : ℕ → List Due → List Turn → Type 0
AreInOrder cores dues [] = Unit {0}
AreInOrder cores [] (t ∷ ts) = ⊥
AreInOrder cores (due ∷ dues) (t ∷ ts) =
    (t.job ≡ due.job) × (t.command ≡ command_of cores due.job) × (due.serial ≡ Some t.made)
    × ((ts ≡ []) ⊎ (is_done t.course ≡ true)) × AreInOrder cores dues ts

-- the fault of a turn whose job failed
abbrev pub course_failure : Flow → Job → Course → Option Fault
course_failure flow job (Closed ending) = failure (named flow job) ending
course_failure flow job course = None

-- the fault of the first job that failed
abbrev pub first_failure : Flow → List Turn → Option Fault
first_failure flow [] = None
first_failure flow (t ∷ ts) = or_later (course_failure flow t.job t.course) (first_failure flow ts)

-- All turns were closed, and counted. Where no job failed all jobs that are due had their turns.
pub record IsTally (flow : Flow) (dues : List Due) (turns : List Turn) (tally : Tally) : Type 0 where
  pub closed : Each (λ (t : Turn). is_closed t.course ≡ true) turns
  pub started : tally.started ≡ length turns
  pub done : tally.done ≡ count_by (λ (t : Turn). is_done t.course) turns
  pub failed : tally.done + tally.failed ≡ tally.started
  pub first : tally.first ≡ first_failure flow turns
  pub all : tally.first ≡ None → length turns ≡ length dues

-- There is a job whose turn is next, and no serial for it.
pub record IsSerials (dues : List Due) (turns : List Turn) (f : Fault) : Type 0 where
  pub is : f ≡ fault.Serials
  pub next : Due
  pub is_next : slice_get dues (length turns) ≡ Some next
  pub none : next.serial ≡ None
  pub done : Each (λ (t : Turn). is_done t.course ≡ true) turns

-- An input is gone exactly as the looks say it; where a record is too long, there are stamps.
abbrev pub IsLooked : Result (List Stamp) Stop → Stop → Type 0
IsLooked looked (stopping.TooLong bytes) = (stamps : List Stamp) × (looked ≡ Ok stamps)
IsLooked looked (stopping.Gone p) = looked ≡ Err (stopping.Gone p)
IsLooked looked stop = Unit {0}

-- the records of a recipe's outputs, with this serial, these stamps and no members, are valid and can be written
pub record AreWritable (made : ℕ) (recipe : Recipe) (stamps : List Stamp) : Type 0 where
  pub valid : Each (λ p. is_valid (record_of p made recipe stamps []) ≡ true) (out_paths recipe)
  pub writable : Each (λ p. is_writable (record_of p made recipe stamps []) ≡ true) (out_paths recipe)

-- The job of the turn has an output, and its outputs and logs are paths in UTF-8. Where anything was done but looks and reads, the records of its outputs without members
-- are valid, can be written, and aren't too long.
pub record Fits (t : Turn) : Type 0 where
  pub makes : out_paths t.job.recipe ≡ [] → ⊥
  pub paths : Each (λ p. is_path_text p ≡ true) (owned_paths t.job.recipe t.job.logs)
  pub records : is_begun t.course ≡ true → AreWritable t.made t.job.recipe (found t.looked)
  pub short : is_begun t.course ≡ true → too_long t.made t.job.recipe (found t.looked) ≡ None

-- The last turn ended with this fault.
pub record IsStopped (flow : Flow) (turns : List Turn) (failed : Bool) (f : Fault) : Type 0 where
  pub before : List Turn
  pub last : Turn
  pub stop : Stop
  pub turns_are : turns ≡ before ++ last ∷ []
  pub is : f ≡ stop_fault (named flow last.job) stop
  pub answer : IsAnswer (too_long last.made last.job.recipe (found last.looked)) last.course failed (Err stop)
  pub looked : IsLooked last.looked stop

-- What turns may answer, where a call of the device failed or none.
abbrev pub IsOutcome : Flow → List Due → List Turn → Bool → Result Tally Fault → Type 0
IsOutcome flow dues turns failed (Ok tally) = (failed ≡ false) × IsTally flow dues turns tally
IsOutcome flow dues turns failed (Err f) =
    ((failed ≡ false) × (f ≡ fault.OutOfMemory)) ⊎ (((failed ≡ false) × IsSerials dues turns f) ⊎ IsStopped flow turns failed f)

-- a fault with which all lines are put that are due
abbrev pub leaves_whole : Fault → Bool
leaves_whole fault.Output = false
leaves_whole fault.OutOfMemory = false
leaves_whole f = true

abbrev pub is_output_fault : Fault → Bool
is_output_fault fault.Output = true
is_output_fault f = false

abbrev pub is_device_fault : Fault → Bool
is_device_fault fault.Device = true
is_device_fault f = false

-- all lines that are due were put
abbrev pub is_whole : {T : Type 0} → Result T Fault → Bool
is_whole (Ok t) = true
is_whole (Err f) = leaves_whole f

abbrev pub is_output : {T : Type 0} → Result T Fault → Bool
is_output (Ok t) = false
is_output (Err f) = is_output_fault f

abbrev pub is_device : {T : Type 0} → Result T Fault → Bool
is_device (Ok t) = false
is_device (Err f) = is_device_fault f

-- What a run did of the jobs that are due: their turns, the lines that were put, and what is left.
pub record HasRun (act : Act) (flow : Flow) (cores : ℕ) (dues : List Due) (made : Serials) (result : Result Tally Fault) (old new : Device) (out_old out_new : Sunk) : Type 0 where
  pub turns : List Turn
  -- a call of the device failed
  pub failed : Bool
  pub in_order : AreInOrder cores dues turns
  pub answer : IsOutcome flow dues turns failed result
  pub fits : Each Fits turns
  pub ran : HasEnded act (AreTurns made turns) old new failed
  pub given : HasGiven act old new
  pub text : HasReported (IsReport (is_whole result) (report_of flow turns)) out_old out_new (is_output result)

-- ## Steps

-- the turn of these parts
abbrev pub turn_of : Job → Text → ℕ → Result (List Stamp) Stop → Course → Turn
turn_of job command made looked course = record { job = job; command = command; made = made; looked = looked; course = course }

-- the looks go with this answer
abbrev pub IsLookedBy : Result (List Stamp) Stop → Result Ending Stop → Type 0
IsLookedBy looked (Ok ending) = Unit {0}
IsLookedBy looked (Err stop) = IsLooked looked stop

-- The turn of a job was taken; this is what the looks at its inputs gave.
pub record HasTaken (act : Act) (flow : Flow) (made : Serials) (job : Job) (command : Text) (serial : ℕ) (result : Result Ending Stop) (old new : Device) (out_old out_new : Sunk) : Type 0 where
  pub looked : Result (List Stamp) Stop
  pub why : IsLookedBy looked result
  pub turned : HasTurned act (λ course. IsTurn made (turn_of job command serial looked course)) (named flow job) (too_long serial job.recipe (found looked)) result old new out_old out_new
  pub records : is_begun turned.course ≡ true → AreWritable serial job.recipe (found looked)

-- What a turn answers: nothing of a job that is done, the fault of one that failed, or why the run stops.
abbrev pub IsTurnAnswer : Flow → Turn → Bool → Result (Option Fault) Fault → Type 0
IsTurnAnswer flow t failed (Ok first) = (failed ≡ false) × ((ending : Ending) × (t.course ≡ Closed ending) × (first ≡ failure (named flow t.job) ending))
IsTurnAnswer flow t failed (Err f) =
    ((failed ≡ false) × (f ≡ fault.OutOfMemory))
    ⊎ ((stop : Stop) × (f ≡ stop_fault (named flow t.job) stop) × IsAnswer (too_long t.made t.job.recipe (found t.looked)) t.course failed (Err stop) × IsLooked t.looked stop)

-- What the turn of a job did.
pub record HasHadTurn (act : Act) (flow : Flow) (made : Serials) (job : Job) (command : Text) (serial : ℕ) (result : Result (Option Fault) Fault) (old new : Device) (out_old out_new : Sunk) : Type 0 where
  pub turn : Turn
  pub failed : Bool
  pub job_is : turn.job ≡ job
  pub command_is : turn.command ≡ command
  pub made_is : turn.made ≡ serial
  pub answer : IsTurnAnswer flow turn failed result
  pub fits : Fits turn
  pub ran : HasEnded act (IsTurn made turn) old new failed
  pub given : HasGiven act old new
  pub text : HasReported (IsReport (is_whole result) (course_text (named flow turn.job) turn.course)) out_old out_new (is_output result)

-- The turns so far: those of so many jobs, each of which is done.
pub record HasRunSoFar (act : Act) (flow : Flow) (cores : ℕ) (dues : List Due) (made : Serials) (count : ℕ) (old new : Device) (out_old out_new : Sunk) : Type 0 where
  pub turns : List Turn
  pub counted : length turns ≡ count
  pub done : Each (λ (t : Turn). is_done t.course ≡ true) turns
  pub in_order : AreInOrder cores dues turns
  pub fits : Each Fits turns
  pub ran : HasEnded act (AreTurns made turns) old new false
  pub given : HasGiven act old new
  pub text : HasReported (IsReport true (report_of flow turns)) out_old out_new false

-- The turn of a job that is due can be taken: it makes something, its outputs and logs don't overlap one another, the names of its wildcards rise, its command
-- has no fault, and its serial, where it has one, isn't 0 and is above those of the products that it reads.
pub record IsReady (flow : Flow) (cores : ℕ) (made : Serials) (due : Due) : Type 0 where
  pub makes : out_paths due.job.recipe ≡ [] → ⊥
  pub apart : are_apart (owned_paths due.job.recipe due.job.logs) ≡ true
  pub wildcards : are_rising (map (λ (w : Pair). w.name) due.job.recipe.wildcards) ≡ true
  pub good : job_fault flow cores due.job ≡ None
  pub positive : (serial : ℕ) → due.serial ≡ Some serial → 1 ≤ serial
  pub below : (serial : ℕ) → due.serial ≡ Some serial → Each (λ p. IsBelow serial (made p)) (in_paths due.job.recipe)

-- the fault of a run that stops so; or want of memory for the fault's texts
abbrev pub IsToldStop : Named → Stop → Fault → Type 0
IsToldStop name stop f = (f ≡ stop_fault name stop) ⊎ ((f ≡ fault.OutOfMemory) × (is_refusal stop ≡ true))
