-- Folders with the same sources derive the same jobs; and with further listings a job stays as it is whose gathered directories are listed.
use Rattle.std.proofs.Common.{◌≡◌, ◌≢◌, ◌⊎◌, true, List, [], ◌++◌, flat_map, refl, sym, ap, subst, inl, inr, ◌∙◌, Option, Some, None, append_assoc, append-nil}
use Rattle.smk_world.specs.Trees.{Path}
use Rattle.smk_flow.specs.declared.job.Job.{Job}
use Rattle.smk_flow.specs.Flows.{Flow}
use Rattle.smk_choose.specs.Choose.{Sources}
use Rattle.smk_store.specs.Images.{Image, is_source}
use Rattle.smk_chain.specs.Derive.{Listings, distinct, job, jobs, listing, or_none, same_candidate, sources_of, walk}
use Rattle.smk_pick.specs.declared.settings.Settings.{Settings}
use Rattle.smk_plan.specs.States.{Plan, Progress, LastPlan, Last, Then, files_listed, gathers_from, new_listings}
use Rattle.smk_laws_plan.proofs.CurrentLists.{In, distinct_in, flat_in, in_flat, map_in, none_some}
use Rattle.smk_laws_plan.proofs.CurrentRecipes.{job_same}
use Rattle.smk_laws_plan.proofs.CurrentWalked.{walked_job}
use Rattle.smk_laws_plan.proofs.PlanOne.{derived}
use Rattle.smk_laws_history.proofs.CurrentLaw.{last_is, last_listed}
use Rattle.smk_laws_history.proofs.CurrentReads.{sources_alike}
use Rattle.smk_laws_history.proofs.MoreListings.{listing_still, source_files, walk_more}
use Rattle.smk_laws_protocol.proofs.Basics.{each_in, each_on}
use Rattle.smk_laws_moments.specs.Staying.{DerivationStays, IsListed, ListedJobsStay}

pub derivation_stays : DerivationStays
derivation_stays flow a b L targets first second in_a in_b same is_first is_second =
    sym (derived flow a L targets first in_a is_first).1
    ∙ (ap (λ (S : Sources). jobs flow S L targets) (sources_alike a b in_a in_b same) ∙ (derived flow b L targets second in_b is_second).1)

-- a listing that is there stays
known_still : (L M : Listings) (d : Path) → listing L d ≢ None → listing (L ++ M) d ≢ None
known_still L M d known none = go (listing L d) refl
  where
    go : (o : Option (List Path)) → listing L d ≡ o → ⊥
    go None e = known e
    go (Some files) e = none_some (listing (L ++ M) d) files none (listing_still L M d files e)

module _ (flow : Flow) (image : Image) (settings : Settings) (progress : Progress) where
  -- the listings of the last plan are those from which the chain began, and further ones
  last_more : (L : Listings) (last : Plan) → LastPlan flow image settings progress L last → (M : Listings) × (last.lists ≡ L ++ M)
  last_more L last (Last p is done) = ([], sym (append-nil p.lists))
  last_more L last (Then p q is more rest) =
      let new = new_listings image settings progress p in
      let r = last_more (p.lists ++ new) last rest in
      (new ++ r.0, r.1 ∙ append_assoc p.lists new r.0)

  module _ (L : Listings) (last : Plan) (chain : LastPlan flow image settings progress L last) (M : Listings) (lists : last.lists ≡ L ++ M) where
    -- what is known to stand in a source or in a listed directory stays
    files_stay : (d : Path) → (is_source image d ≡ true) ⊎ (listing L d ≢ None) → or_none (listing L d) ≡ or_none (listing (L ++ M) d)
    files_stay d listed = go (listing L d) refl listed
      where
        later : (o : Option (List Path)) → listing (L ++ M) d ≡ o → listing L d ≡ None → is_source image d ≡ true → [] ≡ or_none o
        later None e none source = refl
        later (Some files) e none source =
            pick (last_listed flow image settings progress L last chain d files (ap (λ (ls : Listings). listing ls d) lists ∙ e))
          where
            pick : (listing L d ≡ Some files) ⊎ (files ≡ files_listed image d) → [] ≡ files
            pick (inl known) = absurd (none_some (listing L d) files none known)
            pick (inr of_record) = sym (of_record ∙ source_files image d source)

        go : (o : Option (List Path)) → listing L d ≡ o → (is_source image d ≡ true) ⊎ (listing L d ≢ None) → or_none (listing L d) ≡ or_none (listing (L ++ M) d)
        go (Some files) e listed = ap or_none (e ∙ sym (listing_still L M d files e))
        go None e (inl source) = ap or_none e ∙ later (listing (L ++ M) d) refl e source
        go None e (inr known) = absurd (known e)

    listed_on : (j : Job) → IsListed image L j → IsListed image (L ++ M) j
    listed_on j listed = each_on (λ d. (is_source image d ≡ true) ⊎ (listing L d ≢ None)) (λ d. (is_source image d ≡ true) ⊎ (listing (L ++ M) d ≢ None)) one (gathers_from j) listed
      where
        one : (d : Path) → (is_source image d ≡ true) ⊎ (listing L d ≢ None) → (is_source image d ≡ true) ⊎ (listing (L ++ M) d ≢ None)
        one d (inl source) = inl source
        one d (inr known) = inr (known_still L M d known)

    derived_on : (j : Job) → In j (jobs flow (sources_of image) L settings.targets) → IsListed image L j → In j (jobs flow (sources_of image) (L ++ M) settings.targets)
    derived_on j i listed =
        let walked = flat_map (walk flow (sources_of image) L 200) settings.targets in
        let c = map_in (job flow L) (distinct same_candidate walked) j i in
        let t = flat_in (walk flow (sources_of image) L 200) settings.targets c.0 (distinct_in same_candidate walked c.0 c.1) in
        let more =
        walked_job flow (sources_of image) (L ++ M) settings.targets 200 c.0
        (in_flat (walk flow (sources_of image) (L ++ M) 200) settings.targets t.0 c.0 t.1 (walk_more flow (sources_of image) L M 200 t.0 c.0 t.2)) in
        let same : job flow L c.0 ≡ job flow (L ++ M) c.0 =
        job_same flow c.0 L (L ++ M)
        (λ d k. files_stay d
        (each_in (λ d. (is_source image d ≡ true) ⊎ (listing L d ≢ None)) (gathers_from j) d listed (subst (λ (x : Job). In d (gathers_from x)) (sym c.2) k))) in
        subst (λ (x : Job). In x (jobs flow (sources_of image) (L ++ M) settings.targets)) (sym (c.2 ∙ same)) more

pub listed_jobs_stay : ListedJobsStay
listed_jobs_stay flow image settings progress L plan j complete chain i listed =
    let more = last_more flow image settings progress L plan chain in
    let here = derived_on flow image settings progress L plan chain more.0 more.1 j i listed in
    let there : In j (jobs flow (sources_of image) plan.lists settings.targets) =
    subst (λ (ls : Listings). In j (jobs flow (sources_of image) ls settings.targets)) (sym more.1) here in (
      subst (In j) (derived flow image plan.lists settings.targets plan.jobs complete (last_is flow image settings progress L plan chain).derived).1 there,
      subst (λ (ls : Listings). IsListed image ls j) (sym more.1) (listed_on flow image settings progress L plan chain more.0 more.1 j listed),
    )
