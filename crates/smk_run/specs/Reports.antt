-- What is reported of a turn, and what its end answers.
use Rattle.std.specs.Prelude.{◌≡◌, ℕ, Bool, true, false, List, [], ◌++◌, Option, Some, None, Result, Ok, Err, IsSome}
use Rattle.std.specs.List.{flat_map}
use Rattle.smk_world.specs.World.{World, out_paths}
use Rattle.smk_world.specs.declared.event.Event.{Event}
use Rattle.smk_world.specs.Calls.{HasCause}
use Rattle.smk_world.specs.Devices.{Device, Sunk, HasEnded}
use Rattle.smk_world.specs.Trees.{Act, first}
use Rattle.smk_pattern.specs.Reading.{or_empty}
use Rattle.smk_flow.specs.declared.job.Job.{Job}
use Rattle.smk_flow.specs.Flows.{Flow}
pub use Rattle.smk_flow.specs.Flows.{rule_name}
use Rattle.smk_report.specs.Lines.{Text, Named, start_line, done_line, failed_line}
use Rattle.smk_report.specs.Lines as report
use Rattle.smk_report.specs.declared.fault.Fault.{Fault}
use Rattle.smk_report.specs.declared.fault.Fault.TheVariants as fault
use Rattle.smk_run.specs.declared.ending.Ending.{Ending}
use Rattle.smk_run.specs.declared.ending.Ending.TheVariants.{Good, Status, NoOutput, WrongKind, BadMember}
use Rattle.smk_run.specs.declared.stop.Stop.{Stop}
use Rattle.smk_run.specs.declared.stop.Stop.TheVariants.{TooLong, Gone, Device as DeviceStop, Output, OutOfMemory}
use Rattle.smk_run.specs.Statuses.{HasGiven}
use Rattle.smk_run.specs.Turns.{Course, Unbegun, Unstarted, Unclosed, Closed, Turn, is_closed, is_begun, is_started}

-- ## Names

-- a job is named by its rule and its first output
abbrev pub named : Flow → Job → Named
named flow job = record { rule = rule_name flow job.rule; path = or_empty (first (out_paths job.recipe)) }

-- ## Lines

abbrev pub end_line : Named → Ending → Text
end_line name Good = done_line name
end_line name (Status n) = failed_line name (report.Status n)
end_line name (NoOutput p) = failed_line name (report.NoOutput p)
end_line name (WrongKind p) = failed_line name (report.WrongKind p)
end_line name (BadMember p) = failed_line name (report.BadMember p)

-- the lines of a turn that came so far
abbrev pub course_text : Named → Course → Text
course_text name Unbegun = []
course_text name Unstarted = []
course_text name Unclosed = start_line name
course_text name (Closed ending) = start_line name ++ end_line name ending

-- the lines of these turns
abbrev pub report_of : Flow → List Turn → Text
report_of flow turns = flat_map (λ (t : Turn). course_text (named flow t.job) t.course) turns

-- the text begins the whole
abbrev pub IsFront : Text → Text → Type 0
IsFront text whole = (rest : Text) × (whole ≡ text ++ rest)

-- the whole, or a front of it
abbrev pub IsReport : Bool → Text → Text → Type 0
IsReport true whole text = text ≡ whole
IsReport false whole text = IsFront text whole

-- Text was put that P allows. What was told stays told unless the sink failed; that has its cause, and without it the count stays.
pub record HasReported (P : Text → Type 0) (old new : Sunk) (failure : Bool) : Type 0 where
  pub told : (now : Text) → new.put ≡ Some now → (before : Text) × (old.put ≡ Some before) × ((text : Text) × P text × (now ≡ before ++ text))
  pub stays : failure ≡ false → IsSome old.put → IsSome new.put
  pub cause : HasCause old.faults new.faults failure
  pub quiet : failure ≡ false → new.faults ≡ old.faults

-- ## Answers

-- the fault of a job that failed
abbrev pub failure : Named → Ending → Option Fault
failure name Good = None
failure name (Status n) = Some (fault.JobFailed name.rule name.path n)
failure name (NoOutput p) = Some (fault.NoOutput name.rule name.path p)
failure name (WrongKind p) = Some (fault.WrongKind name.rule name.path p)
failure name (BadMember p) = Some (fault.BadMember name.rule name.path p)

-- the fault of a job that wasn't begun, or not closed and reported
abbrev pub stop_fault : Named → Stop → Fault
stop_fault name (TooLong bytes) = fault.TooLong name.rule bytes
stop_fault name (Gone p) = fault.NoInput name.path name.rule p
stop_fault name DeviceStop = fault.Device
stop_fault name Output = fault.Output
stop_fault name OutOfMemory = fault.OutOfMemory

-- nothing was done of the job but looks at its inputs
abbrev pub is_refusal : Stop → Bool
is_refusal (TooLong bytes) = true
is_refusal (Gone p) = true
is_refusal DeviceStop = false
is_refusal Output = false
is_refusal OutOfMemory = false

-- a stop after which all lines are put that are due
abbrev pub leaves_whole : Stop → Bool
leaves_whole (TooLong bytes) = true
leaves_whole (Gone p) = true
leaves_whole DeviceStop = true
leaves_whole Output = false
leaves_whole OutOfMemory = false

abbrev pub is_output_stop : Stop → Bool
is_output_stop (TooLong bytes) = false
is_output_stop (Gone p) = false
is_output_stop DeviceStop = false
is_output_stop Output = true
is_output_stop OutOfMemory = false

abbrev pub is_device_stop : Stop → Bool
is_device_stop (TooLong bytes) = false
is_device_stop (Gone p) = false
is_device_stop DeviceStop = true
is_device_stop Output = false
is_device_stop OutOfMemory = false

-- all lines that are due were put
abbrev pub is_whole : {T : Type 0} → Result T Stop → Bool
is_whole (Ok t) = true
is_whole (Err stop) = leaves_whole stop

abbrev pub is_output : {T : Type 0} → Result T Stop → Bool
is_output (Ok t) = false
is_output (Err stop) = is_output_stop stop

abbrev pub is_device : {T : Type 0} → Result T Stop → Bool
is_device (Ok t) = false
is_device (Err stop) = is_device_stop stop

-- What a turn that came so far may answer, where a call of the device failed or none, and where this is too long.
abbrev pub IsAnswer : Option ℕ → Course → Bool → Result Ending Stop → Type 0
IsAnswer long course failed (Ok ending) = (course ≡ Closed ending) × (failed ≡ false)
IsAnswer long course failed (Err (TooLong bytes)) = (course ≡ Unbegun) × (failed ≡ false) × (long ≡ Some bytes)
IsAnswer long course failed (Err (Gone p)) = (course ≡ Unbegun) × (failed ≡ false)
IsAnswer long course failed (Err DeviceStop) = (is_closed course ≡ false) × (failed ≡ true)
IsAnswer long course failed (Err Output) = is_started course ≡ true
IsAnswer long course failed (Err OutOfMemory) = failed ≡ false

-- What the turn of a job did: its calls, the lines that were put, and what is left.
pub record HasTurned (act : Act) (P : Course → World → List Event → Type 0) (name : Named) (long : Option ℕ) (result : Result Ending Stop) (old new : Device) (out_old out_new : Sunk) : Type 0 where
  pub course : Course
  -- a call of the device failed
  pub failed : Bool
  pub answer : IsAnswer long course failed result
  pub ran : HasEnded act (P course) old new failed
  pub given : HasGiven act old new
  pub text : HasReported (IsReport (is_whole result) (course_text name course)) out_old out_new (is_output result)
  -- where anything was done but looks, nothing was too long
  pub fits : is_begun course ≡ true → long ≡ None
