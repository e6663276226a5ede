-- Each job that was derived is derived with more listings, too, with the same outputs.
use Rattle.std.proofs.Common.{◌≡◌, true, false, ◌&&◌, ◌||◌, not, List, [], ◌++◌, flat_map, sym, ap, subst, ◌∙◌, bytes_eq, is_some}
use Rattle.smk_base.specs.Path.{overlaps}
use Rattle.smk_base.proofs.Places.{place_itself}
use Rattle.smk_base.proofs.Under.{both_true, false_unless, never_both, or_first, or_second}
use Rattle.smk_world.specs.Trees.{IsIn, Path, among, folder_over}
use Rattle.smk_world.specs.World.{out_paths}
use Rattle.smk_flow.specs.declared.job.Job.{Job}
use Rattle.smk_flow.specs.Flows.{Candidate, Flow}
use Rattle.smk_choose.specs.Choose.{Make, choose}
use Rattle.smk_store.specs.Images.{Image, is_source, stands}
use Rattle.smk_chain.specs.Derive.{Derived, Listings, derivation, distinct, has_record_or_mark, hinders, job, same_candidate, sources_of, spots, walk}
use Rattle.smk_plan.specs.States.{makes}
use Rattle.smk_laws_plan.specs.Current.{IsComplete}
use Rattle.smk_laws_plan.proofs.CurrentApart.{makes_above, output_spot, spot_free}
use Rattle.smk_laws_plan.proofs.CurrentLists.{distinct_in, flat_in, in_flat, map_in}
use Rattle.smk_laws_plan.proofs.CurrentPaths.{among_in}
use Rattle.smk_laws_plan.proofs.CurrentWalked.{walked_chosen, walked_job}
use Rattle.smk_laws_plan.proofs.PlanOne.{derived, derived_clear, job_makes}
use Rattle.smk_laws_plan.proofs.PlanOrder.{source_unmade}
use Rattle.smk_laws_history.proofs.MoreListings.{walk_more}

module _
    (flow : Flow) (image : Image) (L : Listings) (targets : List Path) (js : List Job) (complete : IsComplete image)
    (is : derivation flow image L targets ≡ Derived js) where
  -- a job is that of a candidate which is chosen for a path, and which the walk from a target comes to
  pub record IsChosen (j : Job) : Type 0 where
    pub candidate : Candidate
    pub is_job : j ≡ job flow L candidate
    pub target : Path
    pub asked : IsIn targets target
    pub walked : IsIn (walk flow (sources_of image) L 200 target) candidate
    pub path : Path
    pub chosen : choose flow (sources_of image) path ≡ Make candidate

  pub chosen_for : (j : Job) → IsIn js j → IsChosen j
  chosen_for j i =
      let all_walked = flat_map (walk flow (sources_of image) L 200) targets in
      let m = map_in (job flow L) (distinct same_candidate all_walked) j (subst (λ ks. IsIn ks j) (sym (derived flow image L targets js complete is).1) i) in
      let u = flat_in (walk flow (sources_of image) L 200) targets m.0 (distinct_in same_candidate all_walked m.0 m.1) in
      let c = walked_chosen flow (sources_of image) L 200 u.0 m.0 u.2 in
      record { candidate = m.0; is_job = m.2; target = u.0; asked = u.1; walked = u.2; path = c.0; chosen = c.1 }

  -- a job has an output
  pub has_output : (j : Job) → IsIn js j → out_paths j.recipe ≡ [] → ⊥
  has_output j i none =
      let c = chosen_for j i in
      let made = subst (λ (z : Job). makes z c.path ≡ true) (sym c.is_job) (job_makes flow (sources_of image) L c.path c.candidate c.chosen) in
      let o = makes_above j c.path made in
      subst (λ ps. IsIn ps o.0) none o.1

  -- no note is known of an output
  pub unnoted : (j : Job) (q : Path) → IsIn js j → among (out_paths j.recipe) q ≡ true → image.noted q ≡ false
  unnoted j q i own =
      false_unless (image.noted q)
      (λ noted.
      let free =
      spot_free image [] (flat_map spots js) (derived_clear flow image L targets js complete is) (q, true) q
      (in_flat spots js j (q, true) i (output_spot j q (among_in (out_paths j.recipe) q own)))
      (among_in image.known q
      (complete.known q
      (or_second (stands (image.kept q)) (image.marked q || image.noted q) (or_second (image.marked q) (image.noted q) noted))))
      in
      never_both (hinders image (q, true) q)
      (both_true (overlaps q q) (image.noted q || (has_record_or_mark image q && not (bytes_eq q q))) (or_first (bytes_eq q q) _ (place_itself q))
      (or_first (image.noted q) (has_record_or_mark image q && not (bytes_eq q q)) noted)) free)

  -- no output is a source
  pub unmade : (j : Job) (q : Path) → IsIn js j → among (out_paths j.recipe) q ≡ true → is_source image q ≡ true → ⊥
  unmade j q i own source =
      let c = chosen_for j i in
      never_both (makes j q) (or_first (among (out_paths j.recipe) q) (is_some (folder_over j.recipe q)) own)
      (ap (λ (z : Job). makes z q) c.is_job ∙ source_unmade flow image L complete c.path q c.candidate c.chosen source)

-- one of the jobs has these outputs
pub record IsStill (news : List Job) (j : Job) : Type 0 where
  pub job : Job
  pub is : IsIn news job
  pub outputs : out_paths job.recipe ≡ out_paths j.recipe

module _
    (flow : Flow) (image : Image) (L M : Listings) (targets : List Path) (olds news : List Job) (complete : IsComplete image)
    (was : derivation flow image L targets ≡ Derived olds) (is : derivation flow image (L ++ M) targets ≡ Derived news) where
  pub still : (j : Job) → IsIn olds j → IsStill news j
  still j i =
      let c = chosen_for flow image L targets olds complete was j i in
      let d = c.candidate in
      let more =
      walked_job flow (sources_of image) (L ++ M) targets 200 d
      (in_flat (walk flow (sources_of image) (L ++ M) 200) targets c.target d c.asked (walk_more flow (sources_of image) L M 200 c.target d c.walked))
      in
      record {
        job = job flow (L ++ M) d;
        is = subst (λ ks. IsIn ks (job flow (L ++ M) d)) (derived flow image (L ++ M) targets news complete is).1 more;
        outputs = ap (λ (x : Job). out_paths x.recipe) (sym c.is_job);
      }
