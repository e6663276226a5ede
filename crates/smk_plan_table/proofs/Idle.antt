-- The jobs whose child doesn't run, and what is judged where none does.
use Rattle.std.proofs.Common.{◌≡◌, Bool, true, false, not, cond, ◌&&◌, ◌||◌, List, [], ◌∷◌, ◌++◌, map, find, Option, Some, None, option_map, refl, sym, ap, ◌∙◌}
use Rattle.std.specs.Prelude.{if◌then◌else◌, bytes_eq, is_none}
use Rattle.std.specs.List.{list_any}
use Rattle.std.specs.Option.{option_and_then}
use Rattle.std.proofs.Math.Bool.{and-true}
use Rattle.smk_world.specs.World.{in_paths, out_paths}
use Rattle.smk_world.specs.Trees.{Path}
use Rattle.smk_flow.specs.declared.job.Job.{Job}
use Rattle.smk_store.specs.Images.{Image, is_source, source_at, core_at}
use Rattle.smk_store.specs.Trust.{is_marked_but, holder, made_stamp, source_stamp}
use Rattle.smk_chain.specs.declared.jobs.Jobs.{Jobs}
use Rattle.smk_trigger.specs.declared.reason.Reason.TheVariants.{Forced}
use Rattle.smk_trigger.specs.declared.reason.State.{State}
use Rattle.smk_trigger.specs.Reasons.{own_reasons, when}
use Rattle.smk_pick.specs.declared.settings.Settings.{Settings}
use Rattle.smk_plan.specs.States.{Progress, job_path, is_forced, kept_state, is_restored}
use Rattle.smk_plan_facts.specs.Facts.{having_run}
use Rattle.smk_plan_states.specs.Judged.{with_states, reasons_alone, reasons_now}
use Rattle.smk_plan_states.proofs.Tests.{any_never}
use Rattle.smk_plan_table.specs.Parts.{idle_in}
use Rattle.smk_plan_table.specs.Plans.{runs_at, idle_at}

none_found : {A : Type 0} (test : A → Bool) (xs : List A) → is_none (find test xs) ≡ not (list_any test xs)
none_found test [] = refl
none_found test (x ∷ xs) = by_test (test x) (none_found test xs)
  where
    by_test : (b : Bool) → is_none (find test xs) ≡ not (list_any test xs) → is_none (cond b (Some x) (find test xs)) ≡ not (b || list_any test xs)
    by_test true e = refl
    by_test false e = e

none_mapped : {A B : Type 0} (f : A → B) (o : Option A) → is_none (option_map f o) ≡ is_none o
none_mapped f None = refl
none_mapped f (Some x) = refl

chosen : {A : Type 0} (b : Bool) (x : A) (xs : List A) → (if b then x ∷ [] else []) ++ xs ≡ cond b (x ∷ xs) xs
chosen true x xs = refl
chosen false x xs = refl

module _ (image : Image) (settings : Settings) (progress : Progress) (all : Jobs) where
  one_idle : (j : Job) → is_none (kept_state image settings progress (with_states all []) j) ≡ not (runs_at progress j)
  one_idle j =
      let named = λ (e : Path × State). bytes_eq e.0 (job_path j) in
      none_mapped (λ (e : Path × State). e.1) (find named progress.running) ∙ none_found named progress.running

  -- a child runs just where the state is told with which it began
  pub idle_same : (jobs : List Job) → idle_in jobs (map (kept_state image settings progress (with_states all [])) jobs) ≡ idle_at progress jobs
  idle_same [] = refl
  idle_same (j ∷ jobs) =
      ap (λ js. (if is_none (kept_state image settings progress (with_states all []) j) then j ∷ [] else []) ++ js) (idle_same jobs)
      ∙ ap (λ b. (if b then j ∷ [] else []) ++ idle_at progress jobs) (one_idle j)
      ∙ chosen (not (runs_at progress j)) j (idle_at progress jobs)

-- ## Where none runs

module _ (image : Image) (settings : Settings) (ran : List Path) (jobs : Jobs) where
  marks : (h : Path) → is_marked_but image (is_restored image settings (having_run ran) (with_states jobs [])) h ≡ image.marked h
  marks h = ap (λ b. image.marked h && not b) (any_never jobs.jobs) ∙ and-true (image.marked h)

  -- every mark counts
  pub now_alone : (j : Job) → reasons_alone image settings (having_run ran) jobs j ≡ reasons_now image settings (having_run ran) jobs j
  now_alone j =
      sym
      (λ i. own_reasons j.recipe (map image.kept (out_paths j.recipe)) (map (λ h. marks h i) (out_paths j.recipe))
      (map (λ q. (q, cond (is_source image q) (source_stamp (source_at image q)) (option_and_then (λ h. cond (marks h i) None (made_stamp (core_at image h))) (holder image q)))) (in_paths j.recipe))
      ++ when (is_forced image settings (having_run ran) (with_states jobs []) j) Forced)
