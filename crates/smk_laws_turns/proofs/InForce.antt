-- The plan that is kept is the last of its chain, and no plan of the chain is refused.
use Rattle.std.proofs.Common.{◌≡◌, zero, suc, Bool, not, ◌&&◌, List, [], ◌∷◌, ◌++◌, map, filter, flat_map, length, Some, refl, sym, ap, subst, ◌∙◌, bytes_eq, cond, is_some, arith}
use Rattle.std.specs.Prelude.{◌||◌, true, false, if◌then◌else◌, option_map}
use Rattle.std.specs.List.{find, list_any}
use Rattle.smk_world.specs.World.{out_paths}
use Rattle.smk_world.specs.Trees.{Path}
use Rattle.smk_flow.specs.declared.job.Job.{Job}
use Rattle.smk_store.specs.Images.{Image}
use Rattle.smk_chain.specs.Derive.{Derived, Listings, Refusal, Refused, derivation}
use Rattle.smk_trigger.specs.declared.reason.State.{State}
use Rattle.smk_trigger.specs.JobStates.{is_to_run}
use Rattle.smk_laws_plan.specs.Current.{IsComplete}
use Rattle.smk_laws_plan.proofs.PlanOne.{one_plan}
use Rattle.smk_plan.specs.Sights.{is_guarded}
use Rattle.smk_plan.specs.States.{IsPlan, Last, LastPlan, Plan, Progress, job_path, new_listings, staged}
use Rattle.smk_plan_table.specs.Plans.{HasMadeAt, IsUnrefused}
use Rattle.smk_plan_live.specs.Live.{LivePlan}
use Rattle.smk_plan_live.specs.Lives.{judging_of, progress_of}
use Rattle.smk_report.specs.declared.fault.Fault.{Fault}
use Rattle.smk_report.specs.declared.fault.Fault.TheVariants as fault
use Rattle.smk_drive.specs.Moments.{Rules}
use Rattle.smk_drive.specs.Refusals.{ChainRefuses, DerivationRefuses, NextRefuses, PlanRefuses, above_limit, ahead, guarded, incomplete, is_running, refused_of, unless_empty}
use Rattle.smk_laws_turns.specs.InForce.{HasCommands, IsKeptFor, KeptIsLast, KeptIsUnrefused, kept_plan}
use Rattle.smk_laws_turns.specs.Progressing.{IsAlike, state_in}
use Rattle.smk_laws_turns.proofs.PlansAlike.{plans_alike, plan_same}

derived_refused : (js : List Job) (r : Refusal) → Derived js ≡ Refused r → ⊥
derived_refused js r h = grind arith

nil_cons : {A : Type 0} (x : A) (xs : List A) → [] ≡ x ∷ xs → ⊥
nil_cons x xs h =
    let e : zero ≡ suc (length xs) = ap length h in
    absurd (omega (arith, e))

runs_by : (running : List (Path × State)) (n : Path) → list_any (λ (e : Path × State). bytes_eq e.0 n) running ≡ is_some (state_in running n)
runs_by [] n = refl
runs_by (e ∷ running) n = go (bytes_eq e.0 n) (runs_by running n)
  where
    go :
        (b : Bool) → list_any (λ (x : Path × State). bytes_eq x.0 n) running ≡ is_some (state_in running n) →
        (b || list_any (λ (x : Path × State). bytes_eq x.0 n) running)
        ≡ is_some (option_map (λ (x : Path × State). x.1) (cond b (Some e) (find (λ (x : Path × State). bytes_eq x.0 n) running)))
    go true h = refl
    go false h = h

-- ## What is refused is the same by two that are alike

module _ (rules : Rules) (image : Image) (p q : Progress) (alike : IsAlike p q) (plan : Plan) where
  running_same : (j : Job) → is_running rules image p plan j ≡ is_running rules image q plan j
  running_same j = runs_by p.running (job_path j) ∙ ap is_some (alike.running (job_path j)) ∙ sym (runs_by q.running (job_path j))

  ahead_same : ahead rules image p plan ≡ ahead rules image q plan
  ahead_same =
      λ i. map (λ (e : Job × State). e.0) (filter (λ (e : Job × State). is_to_run e.1 && not (alike.begun (job_path e.0) i)) (staged plan))

  incomplete_same : incomplete rules image p plan ≡ incomplete rules image q plan
  incomplete_same =
      λ i.
      if rules.settings.rerun_incomplete then []
      else unless_empty (filter image.marked (flat_map (λ (j : Job). out_paths j.recipe) (filter (λ j. not (running_same j i)) plan.jobs)))

  guarded_same : guarded rules image p plan ≡ guarded rules image q plan
  guarded_same = λ i. map fault.Protected (filter (is_guarded image) (flat_map (λ (j : Job). out_paths j.recipe) (ahead_same i)))

  none_refused : IsUnrefused rules image p plan → HasCommands rules image q plan → refused_of rules image q plan ≡ []
  none_refused un commands =
      λ i.
      (sym incomplete_same ∙ un.complete) i
      ++ ((sym guarded_same ∙ un.unguarded) i
      ++ (((λ k. flat_map (above_limit rules image p plan) (sym ahead_same k)) ∙ un.within) i ++ commands i))

-- ## The plan that is kept

module _ (rules : Rules) (image : Image) (progress : Progress) (live : LivePlan) (is : IsKeptFor rules image progress live) where
  made : HasMadeAt (judging_of image live.settings live.base) live.base.jobs live.plan
  made = (is.alive.now image is.agreed).made

  planned : IsPlan rules.flow image live.settings (progress_of live.base) (kept_plan live)
  planned =
      record {
        derived = ap (λ s. derivation rules.flow image live.base.jobs.lists s.targets) is.settings ∙ is.derived;
        states = made.states;
      }

  none_known : new_listings image live.settings (progress_of live.base) (kept_plan live) ≡ []
  none_known = sym made.known ∙ is.none

  kept_last : LastPlan rules.flow image rules.settings progress live.base.jobs.lists (kept_plan live)
  kept_last =
      plans_alike rules.flow image rules.settings (progress_of live.base) progress live.base.jobs.lists (kept_plan live) is.alike
      (subst (λ s. LastPlan rules.flow image s (progress_of live.base) live.base.jobs.lists (kept_plan live)) is.settings
      (Last (kept_plan live) planned none_known))

  planned_so : IsPlan rules.flow image rules.settings progress (kept_plan live)
  planned_so =
      plan_same image rules.settings (progress_of live.base) progress is.alike (kept_plan live) rules.flow
      (subst (λ s. IsPlan rules.flow image s (progress_of live.base) (kept_plan live)) is.settings planned)

  none_so : new_listings image rules.settings progress (kept_plan live) ≡ []
  none_so = subst (λ s. new_listings image s (progress_of live.base) (kept_plan live) ≡ []) is.settings none_known

  module _ (complete : IsComplete image) (commands : HasCommands rules image progress (kept_plan live)) where
    unrefused : refused_of rules image progress (kept_plan live) ≡ []
    unrefused =
        none_refused rules image (progress_of live.base) progress is.alike (kept_plan live) (made.unrefused rules (sym is.settings)) commands

    one : (plan : Plan) → IsPlan rules.flow image rules.settings progress plan → plan.lists ≡ live.base.jobs.lists → kept_plan live ≡ plan
    one plan planned_too same =
        sym (one_plan rules.flow image rules.settings progress plan (kept_plan live) complete planned_too planned_so same)

    no_refusal : (lists : Listings) (f : Fault) → lists ≡ live.base.jobs.lists → ChainRefuses rules image progress lists f → ⊥
    no_refusal _ _ same (DerivationRefuses lists r f refused is_fault) =
        derived_refused live.base.jobs.jobs r
        (sym is.derived ∙ ap (λ l. derivation rules.flow image l rules.settings.targets) (sym same) ∙ refused)
    no_refusal _ _ same (PlanRefuses plan f rest planned_too refused) =
        nil_cons f rest (sym unrefused ∙ ap (refused_of rules image progress) (one plan planned_too same) ∙ refused)
    no_refusal _ _ same (NextRefuses plan f planned_too free more rest) =
        more (sym (ap (new_listings image rules.settings progress) (one plan planned_too same)) ∙ none_so)

pub kept_is_last : KeptIsLast
kept_is_last = kept_last

pub kept_is_unrefused : KeptIsUnrefused
kept_is_unrefused rules image progress live f complete is commands refuses =
    no_refusal rules image progress live is complete commands live.base.jobs.lists f refl refuses
