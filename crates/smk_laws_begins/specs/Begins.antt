-- What a run makes of the job that begins next.
use Rattle.std.specs.Prelude.{◌≡◌, ◌||◌, ℕ, Bool, true, List, [], ◌∷◌, nat_eq, Some, None, Result, Ok, Err}
use Rattle.std.specs.List.{slice_get}
use Rattle.smk_world.specs.declared.event.Event.{Event}
use Rattle.smk_world.specs.World.{World}
use Rattle.smk_world.specs.Calls.{HasOwners}
use Rattle.smk_world.specs.Runs.{Follows}
use Rattle.smk_world.specs.Trees.{Act, Each, is_path_text}
use Rattle.smk_record.specs.declared.record.Stamp.{Stamp}
use Rattle.smk_flow.specs.declared.job.Job.{Job}
use Rattle.smk_flow.specs.Flows.{Flow, rule_name}
use Rattle.smk_trigger.specs.declared.reason.State.{State}
use Rattle.smk_pick.specs.declared.room.Ask.{Ask}
use Rattle.smk_pick.specs.declared.settings.Settings.{Settings}
use Rattle.smk_report.specs.Lines.{Text}
use Rattle.smk_report.specs.declared.fault.Fault.{Fault}
use Rattle.smk_job.specs.Jobs.{LetsBegin, Underway}
use Rattle.smk_job.specs.declared.fault.BeginFault.{BeginFault}
use Rattle.smk_drive.specs.Moments.{Rules}
use Rattle.smk_drive_step.specs.declared.children.Child.{Child}
use Rattle.smk_drive_step.specs.Beginning.{HasTakenUp}
use Rattle.smk_drive_course.specs.Stands.{Stand}
use Rattle.smk_drive_course.specs.Steps.{Deed, IsNext, Started}
use Rattle.smk_drive_pick.specs.Picking.{plan_of}
use Rattle.smk_plan.specs.States.{staged}
use Rattle.smk_laws_turns.specs.Hubs.{IsAt, Parts}
use Rattle.smk_laws_turns.specs.Turning.{faulted}
use Rattle.smk_drive_hub.specs.Turned.{LeadOn, Somewhere}
use Rattle.smk_laws_begins.specs.Fitting.{IsFit, IsPicked, IsUnfit}
use Rattle.smk_laws_begins.specs.Noting.{HasNoted, IsBeginFault}

-- A job may begin: no fault has come, none has failed or the run is to go on, and the job of the number is next.
pub record MayTake (settings : Settings) (h : Parts) (number : ℕ) : Type 0 where
  pub unhalted : h.halt.fault ≡ None
  pub goes_on : (nat_eq h.tally.failed 0 || settings.keep_going) ≡ true
  pub picked : IsPicked h number

-- The job of the kept plan that is picked is next in the run.
pub record IsNextAs (rules : Rules) (h : Parts) (s : Stand) (w : World) (before : List Event) (number : ℕ) : Type 0 where
  pub job : Job × State
  pub staged_at : slice_get (staged (plan_of h.live)) number ≡ Some job
  pub next : IsNext rules s w before job

abbrev pub PickedIsNext : Type 0
PickedIsNext =
    (rules : Rules) (entry : World) (h : Parts) (s : Stand) (w : World) (before : List Event) (deeds : List Deed) (number : ℕ) →
    IsAt rules entry h s w before deeds → MayTake rules.settings h number → IsNextAs rules h s w before number

-- Wherever the run stands, running children leave room for the job that is picked.
abbrev pub RoomIsLeft : Type 0
RoomIsLeft =
    (flow : Flow) (settings : Settings) (h : Parts) (number : ℕ) (j : Job) (w : World) →
    MayTake settings h number → slice_get h.live.base.jobs.jobs number ≡ Some j → Somewhere flow settings h w → LetsBegin w j.recipe j.logs

-- ## Steps on

module _ (flow : Flow) (settings : Settings) (h : Parts) (number : ℕ) where
  -- It doesn't begin, before anything is done.
  abbrev pub UnfitLeads : Type 0
  UnfitLeads = (act : Act) (f : Fault) (w : World) → MayTake settings h number → IsUnfit h number f → LeadOn flow settings h (faulted f h) [] w []

  module _ (act : Act) (j : Job) (known : List Stamp) (made : ℕ) (draws : Bool) (command : Text) (ask : Ask) where
    -- It doesn't begin, and at most sources were read, or a call has failed.
    abbrev pub UnbegunLeads : Type 0
    UnbegunLeads =
        (why : BeginFault) (f : Fault) (w : World) (es : List Event) →
        MayTake settings h number →
        IsFit settings h number j known made draws command ask →
        Each (λ p. is_path_text p ≡ true) j.logs →
        HasTakenUp j known made command (Err why) w es →
        IsBeginFault (rule_name flow j.rule) why f → Follows act w es → LeadOn flow settings h (faulted f h) [] w es

    -- It has begun, which is noted.
    abbrev pub BegunLeads : Type 0
    BegunLeads =
        (going : Underway) (child : Child) (k : Parts) (told put : Result (Unit {0}) Fault) (w : World) (es : List Event) →
        MayTake settings h number →
        IsFit settings h number j known made draws command ask →
        Each (λ p. is_path_text p ≡ true) j.logs →
        HasTakenUp j known made command (Ok going) w es →
        child.going ≡ going →
        child.job ≡ number →
        child.ask ≡ ask →
        HasNoted flow settings h k number draws child told put →
        HasOwners w → Follows act w es → LeadOn flow settings h k (Started j ∷ []) w es
