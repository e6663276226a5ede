-- Of the jobs of a derivation: each is named by an output, which is that of no other job; and what overlaps an output of one is no other one's.
use Rattle.std.proofs.Common.{◌≡◌, ◌≢◌, ◌⊎◌, inl, inr, true, false, ◌&&◌, not, List, [], ◌∷◌, ◌++◌, refl, sym, ap, subst, ◌∙◌, bytes_eq, Some}
use Rattle.std.specs.Prelude.{is_some}
use Rattle.std.specs.List.{list_any}
use Rattle.std.proofs.lemmas.Option.{same_Some}
use Rattle.smk_base.specs.Path.{is_path, overlaps}
use Rattle.smk_base.proofs.Places.{place_itself, same_place}
use Rattle.smk_base.proofs.Under.{never_both, or_first}
use Rattle.smk_world.specs.Calls.{any_overlap}
use Rattle.smk_world.specs.World.{out_paths}
use Rattle.smk_world.specs.Trees.{IsIn, Path, among, first, folder_over}
use Rattle.smk_pattern.specs.Reading.{or_empty}
use Rattle.smk_flow.specs.declared.job.Job.{Job}
use Rattle.smk_flow.specs.Flows.{Flow, logs, outputs}
use Rattle.smk_store.specs.Images.{Image, holds_source, is_source}
use Rattle.smk_chain.specs.Derive.{Derived, Listings, derivation, job}
use Rattle.smk_plan.specs.States.{job_path, makes}
use Rattle.smk_flow.specs.Flows.{Candidate}
use Rattle.smk_laws_plan.specs.Current.{IsComplete}
use Rattle.smk_laws_plan.proofs.CurrentApart.{maker_found}
use Rattle.smk_laws_plan.proofs.CurrentLists.{all_in, and_left, in_either, in_left, in_right}
use Rattle.smk_laws_plan.proofs.CurrentPaths.{in_among}
use Rattle.smk_laws_plan.proofs.PlanOne.{derived_apart}
use Rattle.smk_laws_protocol.proofs.Basics.{by_test, none_of}
use Rattle.smk_laws_moments.proofs.OwnSites.{of_rule, outs_are}
use Rattle.smk_laws_moments.proofs.Spots.{has_output, no_source, owned, owned_between}

-- the first of some paths
first_in : (ps : List Path) → ps ≢ [] → IsIn ps (or_empty (first ps)) × (first ps ≡ Some (or_empty (first ps)))
first_in [] some = absurd (some refl)
first_in (p ∷ ps) some = (inl refl, refl)

module _
    (flow : Flow) (image : Image) (L : Listings) (targets : List Path) (js : List Job) (complete : IsComplete image)
    (is : derivation flow image L targets ≡ Derived js) where
  pub is_named : (j : Job) → IsIn js j → IsIn (out_paths j.recipe) (job_path j)
  is_named j i = (first_in (out_paths j.recipe) (has_output flow image L targets js complete is j i)).0

  pub first_is : (j : Job) → IsIn js j → first (out_paths j.recipe) ≡ Some (job_path j)
  first_is j i = (first_in (out_paths j.recipe) (has_output flow image L targets js complete is j i)).1

  -- an output is that of one job
  pub one_job : (j k : Job) (p : Path) → IsIn js j → IsIn js k → IsIn (out_paths j.recipe) p → IsIn (out_paths k.recipe) p → j ≡ k
  one_job j k p ij ik jp kp =
      let apart = derived_apart flow image L targets js complete is in
      let nothing : Job → Unit {0} = λ x. tt in
      let found = same_Some (j, nothing j) (k, nothing k) (sym (maker_found nothing js j p apart ij (made j jp)) ∙ maker_found nothing js k p apart ik (made k kp)) in
      ap (λ (x : Job × Unit {0}). x.0) found
    where
      made : (x : Job) → IsIn (out_paths x.recipe) p → makes x p ≡ true
      made x i = or_first (among (out_paths x.recipe) p) (is_some (folder_over x.recipe p)) (in_among (out_paths x.recipe) p i)

  -- so is a name
  pub one_name : (j k : Job) → IsIn js j → IsIn js k → bytes_eq (job_path j) (job_path k) ≡ true → j ≡ k
  one_name j k ij ik same =
      one_job j k (job_path k) ij ik (subst (IsIn (out_paths j.recipe)) (same_place (job_path j) (job_path k) same) (is_named j ij)) (is_named k ik)

  -- what overlaps something that a job owns is owned by no other
  pub one_owner : (j k : Job) (p q : Path) → IsIn js j → IsIn js k → IsIn (owned j) p → IsIn (owned k) q → overlaps p q ≡ true → j ≡ k
  one_owner j k p q ij ik jp kq over =
      by_test (bytes_eq (job_path j) (job_path k)) (λ same. one_name j k ij ik same) (λ other. absurd (never_both (overlaps p q) over (apart other)))
    where
      apart : bytes_eq (job_path j) (job_path k) ≡ false → overlaps p q ≡ false
      apart other =
          let none : any_overlap (owned j) (owned k) ≡ false =
          owned_between flow image L targets js complete is (λ x. bytes_eq (job_path j) (job_path x)) j k ij ik (place_itself (job_path j)) other in
          none_of (overlaps p) (owned k) q (none_of (λ x. list_any (overlaps x) (owned k)) (owned j) p none jp) kq

  -- a source overlaps nothing that a job owns
  pub off_source : (j : Job) (p q : Path) → IsIn js j → is_source image p ≡ true → IsIn (owned j) q → overlaps p q ≡ false
  off_source j p q ij source iq = none_of (overlaps p) (owned j) q (no_source flow image L targets js complete is j p ij source) iq

  -- what a job owns is a user's path
  pub owned_is_path : (j : Job) (x : Path) → IsIn js j → IsIn (owned j) x → is_path x ≡ true
  owned_is_path j x i ix =
      let r = of_rule flow image L targets js complete is j i in
      let c = r.candidate in
      let here = subst (λ (z : Job). IsIn (owned z) x) r.is_job ix in
      and_left (is_path x) (not (holds_source image x))
      (all_in (λ q. is_path q && not (holds_source image q)) (outputs flow c ++ logs flow c) x r.free
      (go c (in_either x (out_paths (job flow L c).recipe) (logs flow c) here)))
    where
      go : (c : Candidate) → IsIn (out_paths (job flow L c).recipe) x ⊎ IsIn (logs flow c) x → IsIn (outputs flow c ++ logs flow c) x
      go c (inl k) = in_left x (outputs flow c) (logs flow c) (subst (λ ps. IsIn ps x) (outs_are flow image L targets js complete is c) k)
      go c (inr k) = in_right x (outputs flow c) (logs flow c) k
