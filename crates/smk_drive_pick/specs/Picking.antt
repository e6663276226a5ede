-- Which jobs of a kept plan may begin.
use Rattle.std.specs.Prelude.{◌≡◌, ℕ, Bool, ◌&&◌, not, List, ◌∷◌, bytes_eq, filter, length, map, Option, Some, option_map}
use Rattle.std.specs.List.{find, slice_get}
use Rattle.smk_base.specs.declared.tree.Amount.{Amount}
use Rattle.smk_world.specs.Trees.{Path, among}
use Rattle.smk_flow.specs.declared.job.Job.{Job}
use Rattle.smk_pick.specs.declared.room.Ask.{Ask}
use Rattle.smk_pick.specs.declared.room.Room.{Room}
use Rattle.smk_pick.specs.Rooms.{are_within}
use Rattle.smk_pick.specs.Shares.{Holds}
use Rattle.smk_trigger.specs.declared.reason.State.{State}
use Rattle.smk_plan.specs.declared.wholes.Wholes.{Wholes}
use Rattle.smk_plan.specs.Sights.{wholes_of}
use Rattle.smk_plan.specs.States.{Plan, Progress, is_startable, is_read_now, staged}
use Rattle.smk_plan_states.specs.Judged.{Judging}
use Rattle.smk_plan_states.specs.Ranks.{rank_of}
use Rattle.smk_plan_states.specs.Served.{AreServed}
use Rattle.smk_drive.specs.Lawful.{ask_of, first_of}
use Rattle.smk_plan_live.specs.Live.{LivePlan}
use Rattle.smk_plan_live.specs.Lives.{AreWhole, progress_of}

-- the plan that is kept
abbrev pub plan_of : LivePlan → Plan
plan_of live = record { lists = live.base.jobs.lists; jobs = live.base.jobs.jobs; states = live.plan.states }

-- the state that the job of this name had when it began, if its child runs
abbrev pub child_state : Progress → Path → Option State
child_state p name = option_map (λ (e : Path × State). e.1) (find (λ (e : Path × State). bytes_eq e.0 name) p.running)

-- The same jobs have begun by both, and the same children run with the same states at their beginning, in whatever order they are told.
pub record AreAlike (a b : Progress) : Type 0 where
  pub begun : (name : Path) → among a.begun name ≡ among b.begun name
  pub running : (name : Path) → child_state a name ≡ child_state b name

-- The jobs of the kept plan are judged so: by its settings and by what has begun. There is a state for each job, of the rank that is kept of it; it is told which job
-- makes what they want, and this is whole.
pub record AreToldOf (at : Judging) (live : LivePlan) (wholes : Wholes) : Type 0 where
  pub settings : at.settings ≡ live.settings
  pub progress : AreAlike at.progress (progress_of live.base)
  pub served : AreServed live.base.jobs live.settings.targets
  pub each : length live.plan.states ≡ length live.base.jobs.jobs
  pub ranks : live.ranking.last.items ≡ map rank_of live.plan.states
  pub whole : wholes ≡ wholes_of at.image live.base.jobs

abbrev pub wrapped : Job × State → Option (Job × State)
wrapped e = Some e

module _ (at : Judging) (plan : Plan) where
  -- startable by the plan; and no child reads what the job makes
  abbrev pub is_free : Job × State → Bool
  is_free e = is_startable at.image at.settings at.progress plan e && not (is_read_now at.image at.settings at.progress plan e.0)

  -- the jobs that may begin beside those that ask for this, within the cores and the bounds
  abbrev pub may_begin : ℕ → List Amount → List Ask → List (Job × State)
  may_begin cores bounds asks = filter (λ (e : Job × State). is_free e && are_within cores bounds (ask_of e.0 ∷ asks)) (staged plan)

-- The number is that of the first job, in plan order, of those with the greatest priority that may begin by the kept plan in this room; there is none exactly
-- where none may.
abbrev pub IsNextIn : LivePlan → Wholes → Room → Option ℕ → Type 0
IsNextIn live wholes room found =
    (at : Judging) (cores : ℕ) (bounds : List Amount) (asks : List Ask) →
    AreToldOf at live wholes →
    Holds cores bounds room asks →
    option_map (slice_get (staged (plan_of live))) found ≡ option_map wrapped (first_of (may_begin at (plan_of live) cores bounds asks))

-- So it is by what is whole now.
pub record IsNextNow (live : LivePlan) (room : Room) (found : Option ℕ) : Type 0 where
  pub wholes : Wholes
  pub whole : AreWhole live.base wholes
  pub next : IsNextIn live wholes room found
