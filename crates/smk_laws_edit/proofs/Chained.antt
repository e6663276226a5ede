-- The chain of plans from no listing, beside a last plan by which all jobs are Clean: nothing is refused, and what becomes known was known.
use Rattle.std.proofs.Common.{◌≡◌, ◌≢◌, ℕ, zero, suc, ◌≤◌, arith, List, [], ◌∷◌, ◌++◌, map, refl, sym, subst, ◌∙◌, IsTrue}
use Rattle.std.proofs.lemmas.Option.{none-some}
use Rattle.smk_world.specs.Trees.{Each}
use Rattle.smk_flow.specs.Flows.{Flow}
use Rattle.smk_flow.specs.declared.job.Job.{Job}
use Rattle.smk_store.specs.Images.{Image}
use Rattle.smk_chain.specs.Derive.{Listings, jobs, sources_of}
use Rattle.smk_trigger.specs.JobStates.{is_clean}
use Rattle.smk_trigger.specs.declared.reason.State.{State}
use Rattle.smk_trigger.specs.declared.reason.State.TheVariants.{Clean}
use Rattle.smk_pick.specs.declared.settings.Settings.{Settings}
use Rattle.smk_plan.specs.States.{IsPlan, Last, LastPlan, Plan, Then, new_listings, nothing_done}
use Rattle.smk_laws_plan.proofs.CurrentLists.{cons_nil}
use Rattle.smk_laws_plan.proofs.PlanOne.{has_plan}
use Rattle.smk_laws_history.proofs.Listed.{left, left_less}
use Rattle.smk_laws_edit.proofs.EditedChain as beside
use Rattle.smk_laws_edit.proofs.Clear.{derived_part}
use Rattle.smk_laws_edit.proofs.Fewer.{IsPartOf}

pub each_clean : (js : List Job) → Each (λ (s : State). IsTrue (is_clean s)) (map (λ (j : Job). Clean) js)
each_clean [] = tt
each_clean (j ∷ js) = (refl, each_clean js)

module _ (flow : Flow) (settings : Settings) (image : Image) (before : Plan) (done : beside.WasDone flow settings image before []) where
  pub same_image : beside.IsEdited flow settings image before [] image
  same_image =
      record {
        complete = done.complete;
        sources = refl;
        derived = done.is_plan.derived;
        known = λ q. refl;
        stand = λ q. refl;
        others = λ q other. refl;
        whole = λ k o kind ik io. refl;
      }

  abbrev pub HasLast : Listings → Type 0
  HasLast L = (next : Plan) × LastPlan flow image settings nothing_done L next × IsPartOf next.lists before.lists

  abbrev Later : Listings → Type 0
  Later L = (M : Listings) → suc (left image M) ≤ left image L → IsPartOf M before.lists → HasLast M

  with_plan : (plan : Plan) → IsPlan flow image settings nothing_done plan → IsPartOf plan.lists before.lists → Later plan.lists → HasLast plan.lists
  with_plan plan is part again = go (new_listings image settings nothing_done plan) refl
    where
      go : (ks : Listings) → new_listings image settings nothing_done plan ≡ ks → HasLast plan.lists
      go [] n = (plan, Last plan is n, part)
      go (k ∷ ks) n =
          let more : new_listings image settings nothing_done plan ≢ [] = λ none. cons_nil k ks (sym n ∙ none) in
          let r =
          again (plan.lists ++ new_listings image settings nothing_done plan) (left_less image settings nothing_done done.complete plan more)
          (beside.part_on flow settings image before [] done image same_image plan is part) in
          (r.0, Then plan r.0 is more r.1, r.2)

  step : (L : Listings) → IsPartOf L before.lists → Later L → HasLast L
  step L part again =
      let js = jobs flow (sources_of image) L settings.targets in
      let p =
      has_plan flow image settings nothing_done L js done.complete
      (derived_part flow L before.lists part image settings.targets before.jobs done.is_plan.derived) in
      subst HasLast p.2
      (with_plan p.0 p.1 (subst (λ K. IsPartOf K before.lists) (sym p.2) part)
      (λ M low. again M (subst (λ K. suc (left image M) ≤ left image K) p.2 low)))

  ends : (k : ℕ) (L : Listings) → left image L ≤ k → IsPartOf L before.lists → HasLast L
  ends zero L few part = step L part (λ M low. absurd (omega arith))
  ends (suc k) L few part = step L part (λ M low. ends k M (omega arith))

  pub has_last : HasLast []
  has_last = ends (left image []) [] (let same : left image [] ≤ left image [] = omega arith in same) (λ f files h. absurd (none-some files h))
