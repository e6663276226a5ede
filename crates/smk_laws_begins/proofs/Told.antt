-- The facts that are told of a job of the kept plan are those of the folder as it counts.
use Rattle.std.proofs.Common.{◌≡◌, ℕ, zero, suc, true, ◌&&◌, not, List, [], ◌∷◌, refl, ap, subst, ◌∙◌, Some}
use Rattle.std.specs.List.{AllZip, list_all, slice_get}
use Rattle.std.proofs.lemmas.Option.{same_Some}
use Rattle.smk_world.specs.World.{in_paths}
use Rattle.smk_world.specs.Trees.{Each, Path}
use Rattle.smk_flow.specs.declared.job.Job.{Job}
use Rattle.smk_store.specs.Images.{Image, is_source}
use Rattle.smk_store.specs.Stores.{Known}
use Rattle.smk_trigger.specs.declared.facts.JobFacts.{JobFacts}
use Rattle.smk_pick.specs.declared.settings.Settings.{Settings}
use Rattle.smk_plan.specs.States.{is_restored}
use Rattle.smk_plan.specs.Summed.{records_by}
use Rattle.smk_plan_facts.specs.Facts.{AreFactsOf, IsToldAs}
use Rattle.smk_plan_facts.specs.Telling.{has_path_texts}
use Rattle.smk_plan_facts.proofs.FactsTold.{facts_so}
use Rattle.smk_plan_states.specs.Judged.{with_states}
use Rattle.smk_plan_table.specs.Plans.{Agree}
use Rattle.smk_laws_plan.proofs.CurrentLists.{get_in}
use Rattle.smk_laws_protocol.proofs.Basics.{each_in, each_of}
use Rattle.smk_plan_live.specs.declared.base.Base.{Base}
use Rattle.smk_plan_live.specs.Agreeing.{AreTold}
use Rattle.smk_plan_live.specs.Kept.{facts_now}
use Rattle.smk_plan_live.specs.Lives.{IsAgreed}
use Rattle.smk_plan_live.specs.Lives.{progress_of as kept_progress}
use Rattle.smk_plan_live.specs.Now.{known_now, seen_now}
use Rattle.smk_plan_live.specs.Phases.{begun_in}
use Rattle.smk_plan_live.proofs.Counted.{as_known, counted_agrees, source_same}
use Rattle.smk_plan_live.proofs.Tables.{left_now}
use Rattle.smk_laws_begins.proofs.Stamped.{CountsAs}

pub zip_get : {A B : Type 0} (R : A → B → Type 0) (xs : List A) (ys : List B) (n : ℕ) (x : A) (y : B) → AllZip R xs ys → slice_get xs n ≡ Some x → slice_get ys n ≡ Some y → R x y
zip_get R [] [] n x y all h k = cc
zip_get R [] (b ∷ ys) n x y all h k = absurd all
zip_get R (a ∷ xs) [] n x y all h k = absurd all
zip_get R (a ∷ xs) (b ∷ ys) zero x y all h k = subst (λ z. R x z) (same_Some b y k) (subst (λ z. R z b) (same_Some a x h) all.0)
zip_get R (a ∷ xs) (b ∷ ys) (suc n) x y all h k = zip_get R xs ys n x y all.1 h k

-- ## What is told counts

module _ (image : Image) (settings : Settings) (b : Base) (agreed : IsAgreed image settings b) where
  abbrev pub known : List Known
  known = known_now b

  abbrev pub counted : Image
  counted = as_known image known

  pub agree : Agree counted b.jobs known (seen_now b) settings.targets
  agree = counted_agrees image settings (kept_progress b) b.jobs known (seen_now b) agreed (left_now b)

  counts_at : (q : Path) → is_source counted q ≡ is_source image q → CountsAs image counted q
  counts_at q same =
      record {
        source = same;
        file = refl;
        held = refl;
        core = λ h. refl;
        marks = λ h none. agreed.marks h ∙ ap (λ a. a && not (is_restored image settings (kept_progress b) (with_states b.jobs []) h)) none;
      }

  pub counts : (n : ℕ) (j : Job) → slice_get b.jobs.jobs n ≡ Some j → Each (CountsAs image counted) (in_paths j.recipe)
  counts n j is =
      let told = each_in (λ (k : Job). AreTold image b.jobs known (in_paths k.recipe)) b.jobs.jobs j agreed.read (get_in b.jobs.jobs n j is) in
      each_of (CountsAs image counted) (in_paths j.recipe)
      (λ q i. counts_at q (source_same image settings (kept_progress b) b.jobs known (seen_now b) agreed (left_now b) q
      (each_in _ (in_paths j.recipe) q told i)))

  -- the stamps that are told of its inputs
  pub told_as :
      (n : ℕ) (j : Job) (f : JobFacts) → list_all has_path_texts b.jobs.jobs ≡ true → slice_get b.jobs.jobs n ≡ Some j →
      slice_get (facts_now settings b) n ≡ Some f → AllZip (IsToldAs counted (records_by counted.kept j)) (in_paths j.recipe) f.stamps
  told_as n j f texts is has =
      let all =
      facts_so counted settings (begun_in b.jobs.jobs b.phases) (with_states b.jobs []) b.jobs known (seen_now b) agree.stored agree.sighted agree.summed
      agree.recorded agree.read texts in
      (zip_get (AreFactsOf counted settings (begun_in b.jobs.jobs b.phases) (with_states b.jobs [])) b.jobs.jobs (facts_now settings b) n j f all is has).stamps
