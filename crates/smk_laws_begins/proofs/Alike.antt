-- Whether a job is held back doesn't depend on the order in which it is told what has begun and what runs.
use Rattle.std.proofs.Common.{◌≡◌, Bool, not, ◌&&◌, List, ◌++◌, map, filter, refl, sym, Option, is_none, is_some}
use Rattle.std.specs.Prelude.{bytes_eq}
use Rattle.std.specs.List.{list_any}
use Rattle.smk_world.specs.World.{in_paths, out_paths}
use Rattle.smk_world.specs.Trees.{Path, among, first}
use Rattle.smk_flow.specs.declared.job.Job.{Job}
use Rattle.smk_store.specs.Images.{Image}
use Rattle.smk_store.specs.Trust.{is_marked_but, stamp_now_but}
use Rattle.smk_chain.specs.declared.jobs.Jobs.{Jobs}
use Rattle.smk_chain.specs.Derive.{distinct}
use Rattle.smk_trigger.specs.declared.reason.Reason.{Reason}
use Rattle.smk_trigger.specs.declared.reason.Reason.TheVariants.{Upstream, Forced}
use Rattle.smk_trigger.specs.declared.reason.State.{State}
use Rattle.smk_trigger.specs.JobStates.{is_dirty, is_restore}
use Rattle.smk_trigger.specs.Reasons.{own_reasons, when}
use Rattle.smk_pick.specs.declared.settings.Settings.{Settings}
use Rattle.smk_plan.specs.States.{Plan, Progress, by_force, is_held_back, is_open_now, is_to_restore, job_path, made_by, makes, nothing_done, test_some}
use Rattle.smk_plan_states.specs.Judged.{any_held_back, with_states}
use Rattle.smk_drive_pick.specs.Picking.{AreAlike, child_state}

pub alike_turned : {a b : Progress} → AreAlike a b → AreAlike b a
alike_turned h = record { begun = λ n. sym (h.begun n); running = λ n. sym (h.running n) }

module _ (image : Image) (settings : Settings) (plan : Plan) (begun : Path → Bool) (child : Path → Option State) where
  abbrev restored_by : Path → Bool
  restored_by p = list_any (λ j. test_some is_restore (child (job_path j)) && among (out_paths j.recipe) p) plan.jobs

  abbrev forced_by : Job → Bool
  forced_by j = not (begun (job_path j)) && by_force settings.force (list_any (makes j) settings.targets)

  abbrev reasons_by : Job → List Reason
  reasons_by j =
      own_reasons j.recipe
      (map image.kept (out_paths j.recipe))
      (map (is_marked_but image restored_by) (out_paths j.recipe))
      (map (λ q. (q, stamp_now_but image restored_by q)) (in_paths j.recipe))
      ++ (map Upstream (filter (made_by plan is_dirty) (distinct bytes_eq (in_paths j.recipe))) ++ when (forced_by j) Forced)

  abbrev read_by : Job → Bool
  read_by j =
      list_any (λ k. is_some (child (job_path k)) && (not (bytes_eq (job_path j) (job_path k)) && list_any (makes j) (in_paths k.recipe))) plan.jobs

  -- a job is held back, by which jobs have begun and which children run
  abbrev held_by : Job → Bool
  held_by j =
      is_none (child (job_path j))
      && (not (is_open_now image settings nothing_done plan j)
      && (is_none (first (reasons_by j)) && (is_to_restore image settings nothing_done plan j && read_by j)))

held_is :
    (image : Image) (settings : Settings) (plan : Plan) (p : Progress) (j : Job) →
    is_held_back image settings p plan j ≡ held_by image settings plan (among p.begun) (child_state p) j
held_is image settings plan p j = refl

pub held_alike :
    (image : Image) (settings : Settings) (jobs : Jobs) (states : List State) (a b : Progress) → AreAlike a b →
    any_held_back (record { image = image; settings = settings; progress = a }) jobs states
    ≡ any_held_back (record { image = image; settings = settings; progress = b }) jobs states
held_alike image settings jobs states a b h =
    λ i. list_any (held_by image settings (with_states jobs states) (λ q. h.begun q i) (λ q. h.running q i)) jobs.jobs
