-- What is refused of a plan is the same by two that are alike.
use Rattle.std.proofs.Common.{◌≡◌, Bool, true, false, not, ◌&&◌, ◌||◌, cond, List, [], ◌∷◌, ◌++◌, map, filter, flat_map, refl, sym, ap, ◌∙◌, bytes_eq, Option, Some, None, is_some}
use Rattle.std.specs.Prelude.{if◌then◌else◌, option_map}
use Rattle.std.specs.List.{find, list_any}
use Rattle.smk_world.specs.World.{out_paths}
use Rattle.smk_world.specs.Trees.{Path}
use Rattle.smk_pattern.specs.Shapes.{Text}
use Rattle.smk_flow.specs.declared.job.Job.{Job}
use Rattle.smk_flow.specs.Flows.{rule_name}
use Rattle.smk_store.specs.Images.{Image}
use Rattle.smk_trigger.specs.declared.reason.State.{State}
use Rattle.smk_trigger.specs.JobStates.{is_to_run}
use Rattle.smk_pick.specs.Rooms.{threads_in}
use Rattle.smk_plan.specs.Sights.{is_guarded}
use Rattle.smk_plan.specs.States.{Plan, Progress, job_path, staged}
use Rattle.smk_report.specs.declared.fault.Fault.TheVariants as fault
use Rattle.smk_drive.specs.Moments.{Rules}
use Rattle.smk_drive.specs.Refusals.{above_limit, ahead, guarded, incomplete, is_running, of_command, refused_of, too_long, unless_empty}
use Rattle.smk_plan_table.specs.Plans.{IsUnrefused}
use Rattle.smk_laws_turns.specs.Progressing.{IsAlike, state_in}

runs_by : (running : List (Path × State)) (n : Path) → list_any (λ (e : Path × State). bytes_eq e.0 n) running ≡ is_some (state_in running n)
runs_by [] n = refl
runs_by (e ∷ running) n = go (bytes_eq e.0 n) (runs_by running n)
  where
    go :
        (b : Bool) → list_any (λ (x : Path × State). bytes_eq x.0 n) running ≡ is_some (state_in running n) →
        (b || list_any (λ (x : Path × State). bytes_eq x.0 n) running)
        ≡ is_some (option_map (λ (x : Path × State). x.1) (cond b (Some e) (find (λ (x : Path × State). bytes_eq x.0 n) running)))
    go true h = refl
    go false h = h

module _ (rules : Rules) (image : Image) (p q : Progress) (alike : IsAlike p q) (plan : Plan) where
  running_same : (j : Job) → is_running rules image p plan j ≡ is_running rules image q plan j
  running_same j = runs_by p.running (job_path j) ∙ ap is_some (alike.running (job_path j)) ∙ sym (runs_by q.running (job_path j))

  ahead_same : ahead rules image p plan ≡ ahead rules image q plan
  ahead_same =
      λ i. map (λ (e : Job × State). e.0) (filter (λ (e : Job × State). is_to_run e.1 && not (alike.begun (job_path e.0) i)) (staged plan))

  incomplete_same : incomplete rules image p plan ≡ incomplete rules image q plan
  incomplete_same =
      λ i.
      if rules.settings.rerun_incomplete then []
      else unless_empty (filter image.marked (flat_map (λ (j : Job). out_paths j.recipe) (filter (λ j. not (running_same j i)) plan.jobs)))

  guarded_same : guarded rules image p plan ≡ guarded rules image q plan
  guarded_same = λ i. map fault.Protected (filter (is_guarded image) (flat_map (λ (j : Job). out_paths j.recipe) (ahead_same i)))

  command_same : (e : Job × State) (m : Option Text) → of_command rules image p plan e m ≡ of_command rules image q plan e m
  command_same e (Some word) = refl
  command_same e None =
      λ i.
      if is_to_run e.1 && not (alike.begun (job_path e.0) i)
      then too_long (rule_name rules.flow e.0.rule) (rules.command e.0 (threads_in rules.settings.cores e.0.threads))
      else []

  pub refused_same : refused_of rules image p plan ≡ refused_of rules image q plan
  refused_same =
      λ i.
      incomplete_same i
      ++ (guarded_same i
      ++ (flat_map (above_limit rules image p plan) (ahead_same i) ++ flat_map (λ (e : Job × State). command_same e (rules.missing e.0) i) (staged plan)))

  -- where nothing else is refused, what is refused is so of commands
  pub only_commands :
      IsUnrefused rules image p plan →
      refused_of rules image q plan ≡ flat_map (λ (e : Job × State). of_command rules image q plan e (rules.missing e.0)) (staged plan)
  only_commands un =
      λ i.
      (sym incomplete_same ∙ un.complete) i
      ++ ((sym guarded_same ∙ un.unguarded) i
      ++ (((λ k. flat_map (above_limit rules image p plan) (sym ahead_same k)) ∙ un.within) i
      ++ flat_map (λ (e : Job × State). of_command rules image q plan e (rules.missing e.0)) (staged plan)))
