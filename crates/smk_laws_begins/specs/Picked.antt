-- What is picked of a kept plan, at a moment of a run at which it is the plan in force.
use Rattle.std.specs.Prelude.{◌≡◌, map, Some, IsTrue}
use Rattle.smk_world.specs.Folders.{IsTree}
use Rattle.smk_world.specs.Trees.{Path, IsIn}
use Rattle.smk_store.specs.Stores.{entry_of}
use Rattle.smk_plan.specs.declared.wholes.Wholes.{Wholes}
use Rattle.smk_plan.specs.Sights.{IsSeenAs}
use Rattle.smk_plan_facts.specs.Telling.{kept_of}
use Rattle.smk_plan_states.specs.Judged.{Judging, any_held_back}
use Rattle.smk_plan_live.specs.Live.{LivePlan}
use Rattle.smk_plan_live.specs.Lives.{AreWhole, IsAgreed, IsLive}
use Rattle.smk_plan_live.specs.Lives.{progress_of as kept_progress}
use Rattle.smk_plan_live.specs.Now.{known_now, seen_now}
use Rattle.smk_drive.specs.Moments.{Rules, Moment, is_spent_now, progress_of, seen}
use Rattle.smk_drive.specs.Lawful.{ask_of, running_jobs}
use Rattle.smk_drive_course.specs.Lawful.{may_start}
use Rattle.smk_drive_course.specs.Steps.{IsAsListed}
use Rattle.smk_drive_pick.specs.Picking.{AreAlike, AreToldOf, may_begin, plan_of}
use Rattle.smk_drive_pick.specs.Spending.{spent_now}

-- what jobs are judged by at a moment
abbrev pub judging_at : Rules → Moment → Judging
judging_at rules m = record { image = seen rules m.world; settings = rules.settings; progress = progress_of m.world m.begun }

-- A kept plan that goes by the settings of the run and by what has begun at the moment, and that agrees with the folder, is judged so: by what is whole, and by
-- whether a job is held back.
abbrev pub JudgedAsKept : Type 0
JudgedAsKept =
    (rules : Rules) (m : Moment) (live : LivePlan) (wholes : Wholes) →
    IsLive live →
    live.settings ≡ rules.settings →
    AreAlike (progress_of m.world m.begun) (kept_progress live.base) →
    IsAgreed (seen rules m.world) live.settings live.base →
    AreWhole live.base wholes →
    AreToldOf (judging_at rules m) live wholes × (live.held ≡ any_held_back (judging_at rules m) live.base.jobs live.plan.states)

-- Where the kept plan is the one in force, its jobs that may begin beside the asks of the running ones are those that may start.
abbrev pub MayStartAsKept : Type 0
MayStartAsKept =
    (rules : Rules) (m : Moment) (live : LivePlan) →
    m.plan ≡ Some (plan_of live) →
    may_start rules m ≡ may_begin (judging_at rules m) (plan_of live) rules.settings.cores rules.settings.bounds (map ask_of (running_jobs m))

-- What is picked as spent is spent by the plan in force; and where the path was seen as it stands and its record is known, all that stands under it is listed.
abbrev pub SpentAsKept : Type 0
SpentAsKept =
    (rules : Rules) (m : Moment) (live : LivePlan) (p : Path) →
    IsTree m.world →
    m.plan ≡ Some (plan_of live) →
    IsIn (spent_now (judging_at rules m) live) p →
    IsTrue (is_spent_now rules m p)
    × (IsSeenAs (seen rules m.world) (seen_now live.base) p →
    kept_of (entry_of (known_now live.base) p) ≡ (seen rules m.world).kept p → IsAsListed (seen rules m.world) p)
