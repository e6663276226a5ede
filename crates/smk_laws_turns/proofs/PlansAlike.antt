-- The last plan of a chain is the same in whatever order the jobs are named that have begun and run.
use Rattle.std.proofs.Common.{◌≡◌, not, ◌&&◌, ◌++◌, map, filter, ◌∙◌, bytes_eq, is_some}
use Rattle.std.specs.Prelude.{if◌then◌else◌}
use Rattle.std.specs.List.{list_any}
use Rattle.smk_world.specs.World.{in_paths, out_paths}
use Rattle.smk_world.specs.Trees.{among}
use Rattle.smk_flow.specs.declared.job.Job.{Job}
use Rattle.smk_flow.specs.Flows.{Flow}
use Rattle.smk_store.specs.Images.{Image}
use Rattle.smk_store.specs.Trust.{is_marked_but, stamp_now_but}
use Rattle.smk_chain.specs.Derive.{distinct}
use Rattle.smk_trigger.specs.declared.reason.Reason.TheVariants.{Upstream, Forced}
use Rattle.smk_trigger.specs.declared.reason.State.TheVariants.{Open}
use Rattle.smk_trigger.specs.JobStates.{is_dirty, is_restore}
use Rattle.smk_trigger.specs.Reasons.{own_reasons, when}
use Rattle.smk_pick.specs.declared.settings.Settings.{Settings}
use Rattle.smk_plan.specs.States.{IsPlan, Last, Plan, Progress, Then, by_force, by_reasons, is_forced, is_open_now, is_read_now, is_restored, is_to_restore, job_path, made_by, makes, reasons, state_of, test_some, while_running}
use Rattle.smk_laws_turns.specs.Progressing.{IsAlike, PlansAlike}

module _ (image : Image) (settings : Settings) (p q : Progress) (alike : IsAlike p q) (plan : Plan) where
  forced_same : is_forced image settings p plan ≡ is_forced image settings q plan
  forced_same = λ i j. not (alike.begun (job_path j) i) && by_force settings.force (list_any (makes j) settings.targets)

  restored_same : is_restored image settings p plan ≡ is_restored image settings q plan
  restored_same = λ i x. list_any (λ (j : Job). test_some is_restore (alike.running (job_path j) i) && among (out_paths j.recipe) x) plan.jobs

  read_same : is_read_now image settings p plan ≡ is_read_now image settings q plan
  read_same =
      λ i j.
      list_any
      (λ (k : Job). is_some (alike.running (job_path k) i) && (not (bytes_eq (job_path j) (job_path k)) && list_any (makes j) (in_paths k.recipe)))
      plan.jobs

  reasons_same : reasons image settings p plan ≡ reasons image settings q plan
  reasons_same =
      λ i j.
      own_reasons j.recipe (map image.kept (out_paths j.recipe)) (map (is_marked_but image (restored_same i)) (out_paths j.recipe))
      (map (λ x. (x, stamp_now_but image (restored_same i) x)) (in_paths j.recipe))
      ++ (map Upstream (filter (made_by plan is_dirty) (distinct bytes_eq (in_paths j.recipe))) ++ when (forced_same i j) Forced)

  state_same : state_of image settings p plan ≡ state_of image settings q plan
  state_same =
      λ i j.
      while_running (alike.running (job_path j) i)
      (if is_open_now image settings p plan j then Open else by_reasons (reasons_same i j) (is_to_restore image settings p plan j && not (read_same i j)))

  pub plan_same : (flow : Flow) → IsPlan flow image settings p plan → IsPlan flow image settings q plan
  plan_same flow is = record { derived = is.derived; states = is.states ∙ (λ i. map (state_same i) plan.jobs) }

pub plans_alike : PlansAlike
plans_alike flow image settings p q _ _ alike (Last plan is done) = Last plan (plan_same image settings p q alike plan flow is) done
plans_alike flow image settings p q _ _ alike (Then plan last is more rest) =
    Then plan last (plan_same image settings p q alike plan flow is) more (plans_alike flow image settings p q _ last alike rest)
