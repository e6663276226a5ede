-- With more listings the jobs of a derivation stay, and those that are listed stay as they are.
use Rattle.std.proofs.Common.{◌≡◌, ◌≢◌, ◌⊎◌, inl, inr, Bool, true, false, cond, List, [], ◌∷◌, ◌++◌, map, find, flat_map, Option, Some, None, option_map, refl, sym, ap, subst, ◌∙◌, bytes_eq}
use Rattle.std.proofs.lemmas.Option.{none-some, same_Some}
use Rattle.smk_base.proofs.Places.{same_place}
use Rattle.smk_world.specs.Trees.{IsIn, Path}
use Rattle.smk_flow.specs.declared.job.Job.{Job}
use Rattle.smk_flow.specs.Flows.{Candidate, Flow}
use Rattle.smk_store.specs.Images.{Image, is_source}
use Rattle.smk_chain.specs.declared.jobs.Known.{Known}
use Rattle.smk_chain.specs.Derive.{Derived, Listings, derivation, distinct, job, listing, or_none, same_candidate, sources_of, spots, walk}
use Rattle.smk_plan.specs.States.{files_listed, gathers_from}
use Rattle.smk_laws_plan.specs.Current.{IsComplete}
use Rattle.smk_laws_plan.proofs.CurrentLists.{In, distinct_in, flat_in, in_flat, map_in, none_some}
use Rattle.smk_laws_plan.proofs.CurrentRecipes.{job_same}
use Rattle.smk_laws_plan.proofs.CurrentWalked.{walked_job}
use Rattle.smk_laws_plan.proofs.PlanOne.{derived}
use Rattle.smk_laws_history.proofs.CurrentLaw.{listing_either}
use Rattle.smk_laws_history.proofs.MoreListings.{listing_still, source_files, walk_more}
use Rattle.smk_laws_protocol.proofs.Basics.{each_in, each_on}
use Rattle.smk_laws_moments.specs.Staying.{IsListed}

-- ## Listings that have become known

-- the listings of these directories, by their records
abbrev pub listings_of : Image → List Path → Listings
listings_of image ds = map (λ d. record { folder = d; files = files_listed image d }) ds

pub files_of_record : (image : Image) (ds : List Path) (d : Path) (fs : List Path) → listing (listings_of image ds) d ≡ Some fs → fs ≡ files_listed image d
files_of_record image [] d fs h = absurd (none-some fs h)
files_of_record image (e ∷ ds) d fs h = go (bytes_eq e d) refl h (files_of_record image ds d fs)
  where
    go :
        (b : Bool) → bytes_eq e d ≡ b →
        option_map (λ (k : Known). k.files)
        (cond b (Some (record { folder = e; files = files_listed image e })) (find (λ (k : Known). bytes_eq k.folder d) (listings_of image ds)))
        ≡ Some fs → (listing (listings_of image ds) d ≡ Some fs → fs ≡ files_listed image d) → fs ≡ files_listed image d
    go true same k later = sym (same_Some (files_listed image e) fs k) ∙ ap (files_listed image) (same_place e d same)
    go false same k later = later k

-- a listing that is there stays
known_still : (L M : Listings) (d : Path) → listing L d ≢ None → listing (L ++ M) d ≢ None
known_still L M d known none = go (listing L d) refl
  where
    go : (o : Option (List Path)) → listing L d ≡ o → ⊥
    go None e = known e
    go (Some files) e = none_some (listing (L ++ M) d) files none (listing_still L M d files e)

module _
    (flow : Flow) (image : Image) (L M : Listings) (targets : List Path)
    (new_files : (d : Path) (fs : List Path) → listing M d ≡ Some fs → fs ≡ files_listed image d) where
  -- ## Jobs that are listed

  -- what is known to stand in a source or in a listed directory stays
  files_stay : (d : Path) → (is_source image d ≡ true) ⊎ (listing L d ≢ None) → or_none (listing L d) ≡ or_none (listing (L ++ M) d)
  files_stay d listed = go (listing L d) refl listed
    where
      later : (o : Option (List Path)) → listing (L ++ M) d ≡ o → listing L d ≡ None → is_source image d ≡ true → [] ≡ or_none o
      later None e none source = refl
      later (Some files) e none source = pick (listing_either L M d files e)
        where
          pick : (listing L d ≡ Some files) ⊎ (listing M d ≡ Some files) → [] ≡ files
          pick (inl known) = absurd (none_some (listing L d) files none known)
          pick (inr new) = sym (new_files d files new ∙ source_files image d source)

      go : (o : Option (List Path)) → listing L d ≡ o → (is_source image d ≡ true) ⊎ (listing L d ≢ None) → or_none (listing L d) ≡ or_none (listing (L ++ M) d)
      go (Some files) e listed = ap or_none (e ∙ sym (listing_still L M d files e))
      go None e (inl source) = ap or_none e ∙ later (listing (L ++ M) d) refl e source
      go None e (inr known) = absurd (known e)

  pub listed_on : (j : Job) → IsListed image L j → IsListed image (L ++ M) j
  listed_on j listed =
      each_on (λ d. (is_source image d ≡ true) ⊎ (listing L d ≢ None)) (λ d. (is_source image d ≡ true) ⊎ (listing (L ++ M) d ≢ None)) one (gathers_from j) listed
    where
      one : (d : Path) → (is_source image d ≡ true) ⊎ (listing L d ≢ None) → (is_source image d ≡ true) ⊎ (listing (L ++ M) d ≢ None)
      one d (inl source) = inl source
      one d (inr known) = inr (known_still L M d known)

  module _ (complete : IsComplete image) (js ks : List Job) (is : derivation flow image L targets ≡ Derived js) (more : derivation flow image (L ++ M) targets ≡ Derived ks)
    where
      -- the job's candidate, of which a job stays
      candidate_stays : (j : Job) → IsIn js j → (c : Candidate) × (j ≡ job flow L c) × IsIn ks (job flow (L ++ M) c)
      candidate_stays j i =
          let walked = flat_map (walk flow (sources_of image) L 200) targets in
          let d = derived flow image L targets js complete is in
          let e = derived flow image (L ++ M) targets ks complete more in
          let c = map_in (job flow L) (distinct same_candidate walked) j (subst (λ xs. IsIn xs j) (sym d.1) i) in
          let t = flat_in (walk flow (sources_of image) L 200) targets c.0 (distinct_in same_candidate walked c.0 c.1) in (
            c.0,
            c.2,
            subst (λ xs. IsIn xs (job flow (L ++ M) c.0)) e.1
                (walked_job flow (sources_of image) (L ++ M) targets 200 c.0
                (in_flat (walk flow (sources_of image) (L ++ M) 200) targets t.0 c.0 t.1 (walk_more flow (sources_of image) L M 200 t.0 c.0 t.2))),
          )

      pub job_stays : (j : Job) → IsIn js j → IsListed image L j → IsIn ks j
      job_stays j i listed =
          let c = candidate_stays j i in
          let same : job flow L c.0 ≡ job flow (L ++ M) c.0 =
          job_same flow c.0 L (L ++ M)
          (λ d k. files_stay d
          (each_in (λ d. (is_source image d ≡ true) ⊎ (listing L d ≢ None)) (gathers_from j) d listed (subst (λ (x : Job). In d (gathers_from x)) (sym c.1) k))) in
          subst (λ (x : Job). IsIn ks x) (sym (c.1 ∙ same)) c.2

      -- ## Outputs and logs

      pub spots_stay : (s : Path × Bool) → IsIn (flat_map spots js) s → IsIn (flat_map spots ks) s
      spots_stay s i =
          let j = flat_in spots js s i in
          let c = candidate_stays j.0 j.1 in
          let there : IsIn (spots (job flow (L ++ M) c.0)) s = subst (λ (x : Job). IsIn (spots x) s) c.1 j.2 in in_flat spots ks (job flow (L ++ M) c.0) s c.2 there
