-- What jobs are judged by, what is known of them before their states are, and what the states tell then.
use Rattle.std.specs.Prelude.{◌≡◌, Bool, ◌&&◌, List, [], ◌++◌, map, filter, is_none, Option}
use Rattle.std.specs.List.{list_any}
use Rattle.smk_world.specs.World.{in_paths, out_paths}
use Rattle.smk_world.specs.Trees.{Path}
use Rattle.smk_flow.specs.declared.job.Job.{Job}
use Rattle.smk_store.specs.Images.{Image}
use Rattle.smk_store.specs.Trust.{stamp_now, is_marked_but, stamp_now_but}
use Rattle.smk_chain.specs.declared.jobs.Jobs.{Jobs}
use Rattle.smk_chain.specs.Derive.{listing}
use Rattle.smk_trigger.specs.declared.reason.Reason.{Reason}
use Rattle.smk_trigger.specs.declared.reason.Reason.TheVariants.{Forced}
use Rattle.smk_trigger.specs.declared.reason.State.{State}
use Rattle.smk_trigger.specs.Reasons.{own_reasons, when}
use Rattle.smk_pick.specs.declared.settings.Settings.{Settings}
use Rattle.smk_plan.specs.States.{Plan, Progress, HasStates, is_forced, is_ready, awaited, is_held_back, kept_state, is_restored}
use Rattle.smk_plan_states.specs.declared.judged.Judged.{Judged}

-- the plan of these jobs with these states
abbrev pub with_states : Jobs → List State → Plan
with_states jobs states = record { lists = jobs.lists; jobs = jobs.jobs; states = states }

-- What jobs are judged by: an image of the folder, what is asked for, and how far the run is.
pub record Judging : Type 0 where
  pub image : Image
  pub settings : Settings
  pub progress : Progress

module _ (at : Judging) (jobs : Jobs) where
  -- for each job whose child runs the state that it had when it began
  abbrev pub began : List (Option State)
  began = map (kept_state at.image at.settings at.progress (with_states jobs [])) jobs.jobs

  -- these are the states of the jobs by the table
  abbrev pub AreStates : List State → Type 0
  AreStates states = HasStates at.image at.settings at.progress (with_states jobs states)

  -- for each target whether it is ready, where the jobs have these states
  abbrev pub targets_ready : List State → List Bool
  targets_ready states = map (is_ready at.image at.settings at.progress (with_states jobs states)) at.settings.targets

  -- the directory is ready, and has no listing
  abbrev pub is_new : List State → Path → Bool
  is_new states d = is_ready at.image at.settings at.progress (with_states jobs states) d && is_none (listing jobs.lists d)

  -- the awaited directories that are, each once, in the order in which they are awaited
  abbrev pub new_directories : List State → List Path
  new_directories states = filter (is_new states) (awaited at.image at.settings at.progress (with_states jobs states))

  -- some job is to be restored but counts as Clean, since a child reads what it made
  abbrev pub any_held_back : List State → Bool
  any_held_back states = list_any (is_held_back at.image at.settings at.progress (with_states jobs states)) jobs.jobs

-- ## What is judged

-- The reasons of a job, but for the inputs whose job is Dirty, where no child runs.
abbrev pub reasons_alone : Image → Settings → Progress → Jobs → Job → List Reason
reasons_alone image settings progress jobs j =
    own_reasons j.recipe (map image.kept (out_paths j.recipe)) (map image.marked (out_paths j.recipe))
    (map (λ q. (q, stamp_now image q)) (in_paths j.recipe))
    ++ when (is_forced image settings progress (with_states jobs []) j) Forced

-- The same at any moment: marks of what is being restored don't count.
abbrev pub reasons_now : Image → Settings → Progress → Jobs → Job → List Reason
reasons_now image settings progress jobs j =
    own_reasons j.recipe (map image.kept (out_paths j.recipe))
    (map (is_marked_but image (is_restored image settings progress (with_states jobs []))) (out_paths j.recipe))
    (map (λ q. (q, stamp_now_but image (is_restored image settings progress (with_states jobs [])) q)) (in_paths j.recipe))
    ++ when (is_forced image settings progress (with_states jobs []) j) Forced

-- What is judged is so: these are the reasons of the jobs, but for the inputs whose job is Dirty; it is told rightly which of the jobs are forced; and
-- for each job whose child runs it has the state that it had when it began.
pub record AreJudged (at : Judging) (jobs : Jobs) (judged : Judged) : Type 0 where
  pub reasons : judged.reasons ≡ map (reasons_now at.image at.settings at.progress jobs) jobs.jobs
  pub forced : judged.forced ≡ map (is_forced at.image at.settings at.progress (with_states jobs [])) jobs.jobs
  pub running : judged.running ≡ began at jobs
