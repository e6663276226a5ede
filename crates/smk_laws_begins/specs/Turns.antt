-- What the turn did in which the job that is next was to begin.
use Rattle.std.specs.Prelude.{◌≡◌, ℕ, Bool, true, false, List, Contains, Result, Ok, Err, is_ok}
use Rattle.smk_world.specs.Devices.{Device, IsSoundDevice, Sunk}
use Rattle.smk_world.specs.Trees.{Act, Each, is_path_text}
use Rattle.smk_record.specs.declared.record.Stamp.{Stamp}
use Rattle.smk_flow.specs.declared.job.Job.{Job}
use Rattle.smk_flow.specs.Flows.{Flow, rule_name}
use Rattle.smk_pick.specs.declared.room.Ask.{Ask}
use Rattle.smk_pick.specs.declared.settings.Settings.{Settings}
use Rattle.smk_report.specs.Lines.{Text, done_line, start_line}
use Rattle.smk_report.specs.declared.fault.Fault.{Fault}
use Rattle.smk_job.specs.Jobs.{Underway, begin_failed}
use Rattle.smk_job.specs.declared.fault.BeginFault.{BeginFault}
use Rattle.smk_job.specs.Starts.{HasStarted, begun_child}
use Rattle.smk_run.specs.Reports.{HasReported}
use Rattle.smk_run.specs.Runs.{is_output}
use Rattle.smk_drive.specs.Reports.{named_job}
use Rattle.smk_plan_live.specs.Lives.{IsLive}
use Rattle.smk_drive_step.specs.Beginning.{HasTakenUp}
use Rattle.smk_drive_step.specs.Telling.{IsPutIf}
use Rattle.smk_laws_turns.specs.Hubs.{Parts}
use Rattle.smk_laws_turns.specs.Turning.{faulted}
use Rattle.smk_drive_hub.specs.Turned.{HasTurned}
use Rattle.smk_laws_begins.specs.Fitting.{IsFit, IsUnfit}
use Rattle.smk_laws_begins.specs.Noting.{HasNoted, IsBeginFault, child_of}
use Rattle.smk_laws_begins.specs.Begins.{MayTake}

-- All that the job begins with was at hand, and the device took it up with this answer.
pub record IsTakenUp
    (act : Act) (settings : Settings) (h : Parts) (number : ℕ) (j : Job) (known : List Stamp) (made : ℕ) (draws : Bool) (command : Text) (ask : Ask)
    (result : Result Underway BeginFault) (old new : Device) : Type 0 where
  pub may : MayTake settings h number
  pub live : IsLive h.live
  pub fit : IsFit settings h number j known made draws command ask
  pub logged : Each (λ p. is_path_text p ≡ true) j.logs
  pub did : HasStarted act (HasTakenUp j known made command result) (begun_child result) old new (begin_failed result)

module _ (act : Act) (flow : Flow) (settings : Settings) (h : Parts) (number : ℕ) where
  -- It doesn't begin, before anything is done.
  abbrev pub UnfitTurns : Type 0
  UnfitTurns =
      (f : Fault) (d : Device) (o : Sunk) →
      MayTake settings h number → IsLive h.live → IsUnfit h number f → HasTurned act flow settings h (faulted f h) false d d o o

  module _ (j : Job) (known : List Stamp) (made : ℕ) (draws : Bool) (command : Text) (ask : Ask) (old new : Device) where
    -- It doesn't begin, and at most sources were read, or a call has failed.
    abbrev pub UnbegunTurns : Type 0
    UnbegunTurns =
        (why : BeginFault) (f : Fault) (o : Sunk) →
        IsTakenUp act settings h number j known made draws command ask (Err why) old new →
        IsBeginFault (rule_name flow j.rule) why f → HasTurned act flow settings h (faulted f h) false old new o o

    -- It has begun, its child has a number of its own, and that is noted.
    abbrev pub BegunTurns : Type 0
    BegunTurns =
        (going : Underway) (k : Parts) (told put : Result (Unit {0}) Fault) (o p : Sunk) →
        IsTakenUp act settings h number j known made draws command ask (Ok going) old new →
        IsSoundDevice old →
        ¬ (Contains old.running going.number) →
        HasNoted flow settings h k number draws (child_of going number ask (done_line (named_job flow j))) told put →
        HasReported (IsPutIf h.telling (is_ok put) (start_line (named_job flow j))) o p (is_output put) → HasTurned act flow settings h k false old new o p
