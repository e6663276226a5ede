-- What follows on the closing of a job of which the number is known.
use Rattle.std.specs.Prelude.{◌≡◌, ℕ, Bool, true, false, List, [], Option, Some, None, Result}
use Rattle.std.specs.List.{slice_get}
use Rattle.smk_world.specs.declared.event.Event.{Event}
use Rattle.smk_world.specs.Trees.{Path}
use Rattle.smk_world.specs.World.{World}
use Rattle.smk_flow.specs.declared.job.Job.{Job}
use Rattle.smk_flow.specs.Flows.{Flow}
use Rattle.smk_pick.specs.declared.settings.Settings.{Settings}
use Rattle.smk_plan_live.specs.Live.{LivePlan}
use Rattle.smk_report.specs.declared.fault.Fault.{Fault}
use Rattle.smk_run.specs.declared.ending.Ending.{Ending as End}
use Rattle.smk_run.specs.Turns.{is_good}
use Rattle.smk_laws_turns.specs.Hubs.{Parts}
use Rattle.smk_laws_closes.specs.Closes.{HasTended}

-- the outputs that are to be made read-only, of a job that is done
abbrev pub guards_if : Bool → Option Job → List Path
guards_if done None = []
guards_if false (Some j) = []
guards_if true (Some j) = j.guards

-- So it is of the job of the number, where there is one, and of each ending by which it is done, or isn't.
abbrev pub HasTendedOf :
    Flow → Settings → ℕ → Bool → Option Fault → LivePlan → LivePlan → Result (Unit {0}) Fault → World → List Event → Type 0
HasTendedOf flow settings number done fault old new answer w es =
    (j : Job) (how : End) (n : Parts) →
    slice_get old.base.jobs.jobs number ≡ Some j →
    is_good how ≡ done → n.live ≡ old → n.halt.fault ≡ fault → HasTended flow settings number j how n w new answer es
