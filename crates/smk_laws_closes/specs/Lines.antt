-- The line of the end of a job.
use Rattle.std.specs.Prelude.{◌≡◌, Bool, true, false, [], Result, Ok, Err}
use Rattle.std.specs.List.{slice_get}
use Rattle.std.specs.Prelude.{Some}
use Rattle.smk_flow.specs.declared.job.Job.{Job}
use Rattle.smk_flow.specs.Flows.{Flow}
use Rattle.smk_report.specs.Lines.{Named, Text, done_line}
use Rattle.smk_report.specs.declared.fault.Fault.{Fault}
use Rattle.smk_run.specs.declared.ending.Ending.{Ending as End}
use Rattle.smk_run.specs.declared.ending.Ending.TheVariants.{BadMember, Good, NoOutput, Status, WrongKind}
use Rattle.smk_run.specs.Reports.{IsFront, end_line}
use Rattle.smk_drive.specs.Reports.{named_job}
use Rattle.smk_drive_step.specs.declared.children.Child.{Child}
use Rattle.smk_plan_live.specs.Live.{LivePlan}

-- The line, where lines went to the sink and still do; a front of it, where none does any more; and nothing where none did.
abbrev pub IsEndPut : Bool → Bool → Text → Text → Type 0
IsEndPut true true line text = text ≡ line
IsEndPut true false line text = IsFront text line
IsEndPut false now line text = text ≡ []

-- the line of the end of a job, which is this one where it ended well
abbrev pub end_text : Text → Named → End → Text
end_text done name Good = done
end_text done name (Status n) = end_line name (Status n)
end_text done name (NoOutput p) = end_line name (NoOutput p)
end_text done name (WrongKind p) = end_line name (WrongKind p)
end_text done name (BadMember p) = end_line name (BadMember p)

-- the first fault of two answers
abbrev pub first_answer : Result (Unit {0}) Fault → Result (Unit {0}) Fault → Result (Unit {0}) Fault
first_answer (Ok u) later = later
first_answer (Err f) later = Err f

-- the child has the line of the end of its job
abbrev pub IsLineOf : Flow → LivePlan → Child → Type 0
IsLineOf flow live c = (j : Job) → slice_get live.base.jobs.jobs c.job ≡ Some j → c.done ≡ done_line (named_job flow j)
