-- The lines of a listing.
use Rattle.std.specs.Prelude.{◌≡◌, ◌⊎◌}
use Rattle.smk_flow.specs.declared.job.Job.{Job}
use Rattle.smk_flow.specs.Flows.{Flow}
use Rattle.smk_trigger.specs.declared.reason.State.{State}
use Rattle.smk_report.specs.declared.fault.Fault.{Fault}
use Rattle.smk_report.specs.declared.fault.Fault.TheVariants as fault
use Rattle.smk_report.specs.Lines.{Text, state_line}
use Rattle.smk_drive.specs.Reports.{named_job}

-- the line of a job by its state
abbrev pub job_line : Flow → Job × State → Text
job_line flow e = state_line (named_job flow e.0, e.1)

-- the sink failed, or memory was wanting
abbrev pub IsFault : Fault → Type 0
IsFault f = (f ≡ fault.Output) ⊎ (f ≡ fault.OutOfMemory)
