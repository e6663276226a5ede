-- Laws of a run: when the commands of the jobs that are due are good, and what the ending of a turn says of its command.
use Rattle.std.specs.Prelude.{◌≡◌, ◌≢◌, ℕ, List, [], ◌∷◌, ◌++◌, Option, None}
use Rattle.std.specs.List.{zip}
use Rattle.smk_base.specs.declared.tree.Tree.{Tree}
use Rattle.smk_world.specs.declared.event.Change.{Change}
use Rattle.smk_world.specs.declared.event.Ended.{Ended}
use Rattle.smk_world.specs.declared.event.Event.{Event}
use Rattle.smk_world.specs.World.{World, run}
use Rattle.smk_world.specs.Calls.{ContentsAre, Rose}
use Rattle.smk_world.specs.Trees.{Act}
use Rattle.smk_flow.specs.declared.job.Job.{Job}
use Rattle.smk_flow.specs.Flows.{Flow}
use Rattle.smk_trigger.specs.declared.reason.State.{State}
use Rattle.smk_format.specs.Refused.{command_fault}
use Rattle.smk_plan.specs.declared.duty.Duty.{Duty}
use Rattle.smk_run.specs.declared.ending.Ending.{Ending}
use Rattle.smk_run.specs.declared.ending.Ending.TheVariants.{Good, Status, NoOutput, WrongKind, BadMember}
use Rattle.smk_run.specs.Closings.{wait_event}
use Rattle.smk_plan.specs.Duties.{AreFor}
use Rattle.smk_run.specs.Duties.{due}
use Rattle.smk_run.specs.Runs.{AreGood}
use Rattle.smk_run.specs.Stamps.{Serials}
use Rattle.smk_run.specs.Statuses.{AreGiven}
use Rattle.smk_run.specs.Turns.{Turn, Closed, IsTurn}

-- Where no command of a plan is refused and the jobs that rest are those that aren't to run, the commands of the jobs that are due are good.
abbrev pub DueCommandsAreGood : Type 0
DueCommandsAreGood =
    (flow : Flow) (cores : ℕ) (first : Option ℕ) (jobs : List Job) (states : List State) (duties : List Duty) →
    command_fault flow cores (zip jobs states) ≡ None → AreFor states duties → AreGood flow cores (due first duties jobs)

-- ## Statuses

-- the status with which the command ended
abbrev pub status_of : Ending → ℕ
status_of Good = 0
status_of (Status n) = n
status_of (NoOutput p) = 0
status_of (WrongKind p) = 0
status_of (BadMember p) = 0

-- One of these events is a wait that told this status of the job's child. It is the status that the command gives on what stood at the job's inputs then,
-- or this holds.
pub record HasStatus (act : Act) (rose : Type 0) (t : Turn) (status : ℕ) (w : World) (es : List Event) : Type 0 where
  pub front : List Event
  pub ended : Ended
  pub left : List Change
  pub back : List Event
  pub events : es ≡ front ++ wait_event ended left ∷ back
  pub told : ended.status ≡ status
  pub given : (trees : List Tree) → ContentsAre (run w front) t.job.recipe trees → status ≢ (act t.job.recipe trees).status → rose

-- The ending of a turn tells the status that its command gives on its inputs, unless the count of faults rose.
abbrev pub ClosedTurnsTellStatus : Type 0
ClosedTurnsTellStatus =
    (act : Act) (before now : ℕ) (made : Serials) (t : Turn) (ending : Ending) (w : World) (es : List Event) →
    w.children ≡ [] →
    IsTurn made t w es →
    t.course ≡ Closed ending → AreGiven act (Rose before now) w es → HasStatus act (Rose before now) t (status_of ending) w es
