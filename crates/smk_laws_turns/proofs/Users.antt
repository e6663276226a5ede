-- What derived jobs make, log and read are users' paths.
use Rattle.std.proofs.Common.{◌≡◌, ◌⊎◌, inl, inr, suc, true, ◌&&◌, not, List, ◌++◌, flat_map, sym, subst}
use Rattle.smk_base.specs.Path.{is_path}
use Rattle.smk_world.specs.World.{in_paths, out_paths}
use Rattle.smk_world.specs.Trees.{IsIn, Path}
use Rattle.smk_flow.specs.declared.job.Job.{Job}
use Rattle.smk_flow.specs.Flows.{Candidate, Flow, logs, outputs}
use Rattle.smk_store.specs.Images.{Image, holds_source}
use Rattle.smk_chain.specs.Derive.{Derived, Listings, derivation, distinct, job, same_candidate, sources_of, walk}
use Rattle.smk_laws_plan.specs.Current.{IsComplete}
use Rattle.smk_laws_plan.proofs.CurrentLists.{all_in, and_left, distinct_in, flat_in, in_either, in_left, in_right, map_in}
use Rattle.smk_laws_plan.proofs.CurrentReach.{want_path}
use Rattle.smk_laws_plan.proofs.CurrentRecipes.{inputs_wanted}
use Rattle.smk_laws_plan.proofs.PlanOne.{derived, derived_reached}
use Rattle.smk_laws_plan.proofs.PlanOrder.{walked_reached}
use Rattle.smk_laws_moments.proofs.OwnSites.{of_rule, outs_are}
use Rattle.smk_laws_moments.proofs.Spots.{owned}

module _
    (flow : Flow) (image : Image) (L : Listings) (targets : List Path) (js : List Job) (complete : IsComplete image)
    (is : derivation flow image L targets ≡ Derived js) where
  -- what a job makes or logs
  pub owned_is_path : (j : Job) (x : Path) → IsIn js j → IsIn (owned j) x → is_path x ≡ true
  owned_is_path j x i ix =
      let r = of_rule flow image L targets js complete is j i in
      let c = r.candidate in
      let here = subst (λ (z : Job). IsIn (owned z) x) r.is_job ix in
      and_left (is_path x) (not (holds_source image x))
      (all_in (λ q. is_path q && not (holds_source image q)) (outputs flow c ++ logs flow c) x r.free (go c (in_either x (out_paths (job flow L c).recipe) (logs flow c) here)))
    where
      go : (c : Candidate) → IsIn (out_paths (job flow L c).recipe) x ⊎ IsIn (logs flow c) x → IsIn (outputs flow c ++ logs flow c) x
      go c (inl k) = in_left x (outputs flow c) (logs flow c) (subst (λ ps. IsIn ps x) (outs_are flow image L targets js complete is c) k)
      go c (inr k) = in_right x (outputs flow c) (logs flow c) k

  -- and what it reads
  pub input_is_path : (j : Job) (q : Path) → IsIn js j → IsIn (in_paths j.recipe) q → is_path q ≡ true
  input_is_path j q i iq =
      let srcs = sources_of image in
      let all = flat_map (walk flow srcs L 200) targets in
      let d = derived flow image L targets js complete is in
      let c = map_in (job flow L) (distinct same_candidate all) j (subst (λ ks. IsIn ks j) (sym d.1) i) in
      let t = flat_in (walk flow srcs L 200) targets c.0 (distinct_in same_candidate all c.0 c.1) in
      let w = walked_reached flow srcs L all 200 t.0 c.0 (derived_reached flow image L targets js complete is t.0 t.1) t.2 in
      want_path flow srcs L (suc w.0) w.1 c.0 q w.2.calm w.3 (inputs_wanted flow c.0 L q (subst (λ (k : Job). IsIn (in_paths k.recipe) q) c.2 iq))
