-- What the facts of jobs tell of them at any moment, where no path has a mark that doesn't count.
use Rattle.std.proofs.Common.{◌≡◌, Bool, true, false, not, ◌&&◌, List, [], ◌++◌, map, Option, None, refl, sym, ap, ◌∙◌}
use Rattle.std.specs.Prelude.{if◌then◌else◌}
use Rattle.std.specs.List.{AllZip}
use Rattle.std.specs.Option.{option_and_then}
use Rattle.std.proofs.Math.Bool.{and-true, and-false}
use Rattle.smk_plan_table.proofs.Told.{zip_same}
use Rattle.smk_world.specs.World.{in_paths, out_paths}
use Rattle.smk_world.specs.Trees.{Path}
use Rattle.smk_record.specs.declared.record.Stamp.{Stamp}
use Rattle.smk_flow.specs.declared.job.Job.{Job}
use Rattle.smk_store.specs.Images.{Image, core_at, is_source, source_at}
use Rattle.smk_store.specs.Trust.{holder, is_marked_but, made_stamp, stamp_now, stamp_now_but, source_stamp}
use Rattle.smk_chain.specs.declared.jobs.Jobs.{Jobs}
use Rattle.smk_trigger.specs.declared.facts.JobFacts.{JobFacts}
use Rattle.smk_trigger.specs.declared.reason.Reason.{Reason}
use Rattle.smk_trigger.specs.declared.reason.Reason.TheVariants.{Forced}
use Rattle.smk_trigger.specs.Reasons.{own_reasons, when, reasons_of}
use Rattle.smk_pick.specs.declared.settings.Settings.{Settings}
use Rattle.smk_plan.specs.States.{Progress, is_forced, is_restored}
use Rattle.smk_plan_facts.specs.Facts.{facts_of, AreFactsOf}
use Rattle.smk_plan_facts.proofs.Reasoned.{all_reasons_as, all_forced_as}
use Rattle.smk_plan_states.specs.Judged.{with_states, reasons_now}

-- ## Marks that don't count

module _ (image : Image) (left_out : Path → Bool) (none : (q : Path) → left_out q ≡ true → image.marked q ≡ false) where
  pub mark_same : (q : Path) → is_marked_but image left_out q ≡ image.marked q
  mark_same q = go (left_out q) refl
    where
      go : (b : Bool) → left_out q ≡ b → (image.marked q && not b) ≡ image.marked q
      go true e = and-false (image.marked q) ∙ sym (none q e)
      go false e = and-true (image.marked q)

  pub stamp_same : (q : Path) → stamp_now_but image left_out q ≡ stamp_now image q
  stamp_same q = λ i.
      if is_source image q then source_stamp (source_at image q)
      else option_and_then (λ h. if mark_same h i then None else made_stamp (core_at image h)) (holder image q)

-- ## Reasons and force

module _
    (image : Image) (settings : Settings) (progress : Progress) (jobs : Jobs)
    (none : (q : Path) → is_restored image settings progress (with_states jobs []) q ≡ true → image.marked q ≡ false) where
  -- what the facts of a job are
  abbrev facts_then : Job → JobFacts
  facts_then = facts_of image settings progress.begun (with_states jobs [])

  abbrev restored : Path → Bool
  restored = is_restored image settings progress (with_states jobs [])

  abbrev reasons_by : Job → List Bool → List (Path × Option Stamp) → List Reason
  reasons_by j marked now =
      own_reasons j.recipe (map image.kept (out_paths j.recipe)) marked now ++ when (is_forced image settings progress (with_states jobs []) j) Forced

  reasons_same : (j : Job) → reasons_of (facts_then j) ≡ reasons_now image settings progress jobs j
  reasons_same j =
      ap (reasons_by j (map image.marked (out_paths j.recipe))) (zip_same (stamp_now image) (in_paths j.recipe))
      ∙ sym
      (λ i.
      reasons_by j (map (λ q. mark_same image restored none q i) (out_paths j.recipe))
      (map (λ q. (q, stamp_same image restored none q i)) (in_paths j.recipe)))

  -- The reasons by the facts of jobs are those of this moment.
  pub reasons_are : (facts : List JobFacts) → AllZip (AreFactsOf image settings progress.begun (with_states jobs [])) jobs.jobs facts → map reasons_of facts ≡ map (reasons_now image settings progress jobs) jobs.jobs
  reasons_are facts are = all_reasons_as image settings progress.begun (with_states jobs []) jobs.jobs facts are ∙ (λ i. map (λ j. reasons_same j i) jobs.jobs)

  -- The facts tell which jobs are forced at this moment.
  pub forced_are :
      (facts : List JobFacts) → AllZip (AreFactsOf image settings progress.begun (with_states jobs [])) jobs.jobs facts →
      map (λ (f : JobFacts). f.forced) facts ≡ map (is_forced image settings progress (with_states jobs [])) jobs.jobs
  forced_are facts are = all_forced_as image settings progress.begun (with_states jobs []) jobs.jobs facts are
