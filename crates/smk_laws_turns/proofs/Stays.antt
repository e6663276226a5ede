-- With the listings that become known of a plan a job stays as it is whose gathered directories are listed already.
use Rattle.std.proofs.Common.{◌≡◌, ◌≢◌, ◌⊎◌, inl, inr, true, List, [], ◌++◌, flat_map, refl, sym, ap, subst, ◌∙◌, find, Option, Some, None}
use Rattle.std.specs.Prelude.{bytes_eq}
use Rattle.smk_base.proofs.Places.{same_place}
use Rattle.smk_world.specs.Trees.{IsIn, Path}
use Rattle.smk_flow.specs.declared.job.Job.{Job}
use Rattle.smk_flow.specs.Flows.{Flow}
use Rattle.smk_store.specs.Images.{Image, is_source}
use Rattle.smk_chain.specs.declared.jobs.Known.{Known}
use Rattle.smk_chain.specs.Derive.{Listings, distinct, job, jobs, listing, or_none, same_candidate, sources_of, walk}
use Rattle.smk_pick.specs.declared.settings.Settings.{Settings}
use Rattle.smk_plan.specs.States.{AreListed, Plan, Progress, files_listed, gathers_from, new_listings}
use Rattle.smk_laws_plan.proofs.CurrentChosen.{mapped}
use Rattle.smk_laws_plan.proofs.CurrentLists.{distinct_in, find_in, flat_in, in_flat, map_in, none_some}
use Rattle.smk_laws_plan.proofs.CurrentRecipes.{job_same}
use Rattle.smk_laws_plan.proofs.CurrentWalked.{walked_job}
use Rattle.smk_laws_history.proofs.CurrentLaw.{listing_either}
use Rattle.smk_laws_history.proofs.MoreListings.{listing_still, source_files, walk_more}
use Rattle.smk_laws_protocol.proofs.Basics.{each_in, each_on}
use Rattle.smk_laws_moments.specs.Staying.{IsListed}

-- a source, or listed
abbrev IsListedBy : Image → Listings → Path → Type 0
IsListedBy image L d = (is_source image d ≡ true) ⊎ (listing L d ≢ None)

module _ (flow : Flow) (image : Image) (settings : Settings) (progress : Progress) (p : Plan) where
  abbrev M : Listings
  M = new_listings image settings progress p

  new_listed : AreListed image M
  new_listed f files e =
      let r = mapped (λ (k : Known). k.files) (find (λ (k : Known). bytes_eq k.folder f) M) files e in
      let k = find_in (λ (k : Known). bytes_eq k.folder f) M r.0 r.1 in
      let d = map_in _ _ r.0 k.0 in
      sym r.2 ∙ ap (λ (k : Known). k.files) d.2 ∙ ap (files_listed image) (sym (ap (λ (k : Known). k.folder) d.2) ∙ same_place r.0.folder f k.1)

  -- what is known to stand in a source or in a listed directory stays
  files_stay : (d : Path) → IsListedBy image p.lists d → or_none (listing p.lists d) ≡ or_none (listing (p.lists ++ M) d)
  files_stay d listed = go (listing p.lists d) refl listed
    where
      later : (o : Option (List Path)) → listing (p.lists ++ M) d ≡ o → listing p.lists d ≡ None → is_source image d ≡ true → [] ≡ or_none o
      later None e none source = refl
      later (Some files) e none source = pick (listing_either p.lists M d files e)
        where
          pick : (listing p.lists d ≡ Some files) ⊎ (listing M d ≡ Some files) → [] ≡ files
          pick (inl known) = absurd (none_some (listing p.lists d) files none known)
          pick (inr new) = sym (new_listed d files new ∙ source_files image d source)

      go : (o : Option (List Path)) → listing p.lists d ≡ o → IsListedBy image p.lists d → or_none (listing p.lists d) ≡ or_none (listing (p.lists ++ M) d)
      go (Some files) e listed = ap or_none (e ∙ sym (listing_still p.lists M d files e))
      go None e (inl source) = ap or_none e ∙ later (listing (p.lists ++ M) d) refl e source
      go None e (inr known) = absurd (known e)

  -- a listing that is there stays
  known_still : (d : Path) → listing p.lists d ≢ None → listing (p.lists ++ M) d ≢ None
  known_still d known none = go (listing p.lists d) refl
    where
      go : (o : Option (List Path)) → listing p.lists d ≡ o → ⊥
      go None e = known e
      go (Some files) e = none_some (listing (p.lists ++ M) d) files none (listing_still p.lists M d files e)

  pub listed_on : (j : Job) → IsListed image p.lists j → IsListed image (p.lists ++ M) j
  listed_on j listed = each_on (IsListedBy image p.lists) (IsListedBy image (p.lists ++ M)) one (gathers_from j) listed
    where
      one : (d : Path) → IsListedBy image p.lists d → IsListedBy image (p.lists ++ M) d
      one d (inl source) = inl source
      one d (inr known) = inr (known_still d known)

  pub derived_on :
      (j : Job) → IsIn (jobs flow (sources_of image) p.lists settings.targets) j → IsListed image p.lists j →
      IsIn (jobs flow (sources_of image) (p.lists ++ M) settings.targets) j
  derived_on j i listed =
      let walked = flat_map (walk flow (sources_of image) p.lists 200) settings.targets in
      let c = map_in (job flow p.lists) (distinct same_candidate walked) j i in
      let t = flat_in (walk flow (sources_of image) p.lists 200) settings.targets c.0 (distinct_in same_candidate walked c.0 c.1) in
      let more =
      walked_job flow (sources_of image) (p.lists ++ M) settings.targets 200 c.0
      (in_flat (walk flow (sources_of image) (p.lists ++ M) 200) settings.targets t.0 c.0 t.1
      (walk_more flow (sources_of image) p.lists M 200 t.0 c.0 t.2)) in
      let same : job flow p.lists c.0 ≡ job flow (p.lists ++ M) c.0 =
      job_same flow c.0 p.lists (p.lists ++ M)
      (λ d k. files_stay d (each_in (IsListedBy image p.lists) (gathers_from j) d listed (subst (λ (x : Job). IsIn (gathers_from x) d) (sym c.2) k))) in
      subst (λ (x : Job). IsIn (jobs flow (sources_of image) (p.lists ++ M) settings.targets) x) (sym (c.2 ∙ same)) more
