-- What was done with a job that was closed and ended so.
use Rattle.std.specs.Prelude.{◌≡◌, ◌≢◌, ℕ, true, false, IfErr, OnOk, Some, Result}
use Rattle.std.specs.List.{slice_get}
use Rattle.smk_world.specs.Devices.{Device, HasActed, Sunk}
use Rattle.smk_world.specs.Trees.{Act}
use Rattle.smk_flow.specs.declared.job.Job.{Job}
use Rattle.smk_flow.specs.Flows.{Flow}
use Rattle.smk_pick.specs.declared.settings.Settings.{Settings}
use Rattle.smk_report.specs.Lines.{Text}
use Rattle.smk_report.specs.declared.fault.Fault.{Fault}
use Rattle.smk_report.specs.declared.fault.Fault.TheVariants as fault
use Rattle.smk_run.specs.declared.ending.Ending.{Ending as End}
use Rattle.smk_run.specs.Reports.{HasReported}
use Rattle.smk_run.specs.Runs.{is_output}
use Rattle.smk_drive.specs.Reports.{named_job}
use Rattle.smk_drive_course.specs.Driven.{device_failed}
use Rattle.smk_laws_turns.specs.Hubs.{Parts}
use Rattle.smk_drive_hub.specs.Keeping.{heeded}
use Rattle.smk_drive_hub.specs.Turned.{IsBarelyMore}
use Rattle.smk_laws_closes.specs.Closes.{HasNotedEnd, HasTended}
use Rattle.smk_laws_closes.specs.Learning.{IsSamePlan}
use Rattle.smk_laws_closes.specs.Lines.{IsEndPut, end_text}

-- The job of the number ended so: its end was put and counted, with an answer; its outputs were made read-only, and the plan was told, with an outcome.
pub record HasEndedSo
    (act : Act) (flow : Flow) (settings : Settings) (h k : Parts) (number : ℕ) (done : Text) (how : End) (old new : Device)
    (out_old out_new : Sunk) : Type 0 where
  pub job : Job
  pub answer : Result (Unit {0}) Fault
  pub noted : Parts
  pub outcome : Result (Unit {0}) Fault
  pub is : slice_get h.live.base.jobs.jobs number ≡ Some job
  pub notes : HasNotedEnd flow job how answer h noted
  pub kept : k ≡ heeded outcome (record noted { live = k.live })
  pub acted : HasActed act (λ v es. HasTended flow settings number job how noted v k.live outcome es) old new (device_failed outcome)
  pub plan : IsSamePlan h.live k.live
  pub counts : IsBarelyMore h.tally k.tally
  pub other : IfErr outcome (λ f. f ≢ fault.Output)
  pub whole : OnOk answer (k.telling ≡ h.telling)
  pub silent : h.telling ≡ false → k.telling ≡ false
  pub cut : is_output answer ≡ true → k.telling ≡ false
  pub text : HasReported (IsEndPut h.telling k.telling (end_text done (named_job flow job) how)) out_old out_new (is_output answer)
