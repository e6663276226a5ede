-- What becomes known by a plan is meant by it.
use Rattle.std.proofs.Common.{◌≡◌, ◌⊎◌, inl, inr, ℕ, zero, suc, ◌≤◌, arith, true, ◌&&◌, List, ◌++◌, filter, find, flat_map, sym, ap, subst, ◌∙◌, Option, Some, None, is_none}
use Rattle.std.specs.Prelude.{bytes_eq}
use Rattle.smk_base.specs.Path.{is_under}
use Rattle.smk_base.proofs.Places.{same_place}
use Rattle.smk_world.specs.World.{in_paths}
use Rattle.smk_world.specs.Trees.{Act, IsIn, Path, folder_over, folders_of}
use Rattle.smk_pattern.proofs.Names.{numbered_all}
use Rattle.smk_flow.specs.declared.job.Job.{Job}
use Rattle.smk_flow.specs.Flows.{Candidate, Flow}
use Rattle.smk_choose.specs.Choose.{Make, Source, Sources, choose}
use Rattle.smk_store.specs.Images.{Image}
use Rattle.smk_store.specs.Trust.{Versions}
use Rattle.smk_chain.specs.declared.jobs.Known.{Known}
use Rattle.smk_chain.specs.Derive.{Listings, distinct, job, listing, recipe, same_candidate, sources_of, walk}
use Rattle.smk_chain.specs.Mean.{Setting, setting_of}
use Rattle.smk_trigger.specs.declared.reason.State.{State}
use Rattle.smk_pick.specs.declared.settings.Settings.{Settings}
use Rattle.smk_plan.specs.States.{Plan, Progress, awaited, awaits, directory_over, files_listed, gathers_from, is_ready, makes, maker_of, new_listings, none_or_one, staged}
use Rattle.smk_laws_plan.proofs.CurrentChosen.{folders_paths, mapped}
use Rattle.smk_laws_plan.proofs.CurrentDepths.{mean_deeper}
use Rattle.smk_laws_plan.proofs.CurrentFills.{bound_fills_from}
use Rattle.smk_laws_plan.proofs.CurrentLists.{and_left, distinct_in, filter_in, find_in, flat_in, in_either, in_right, map_in, zip_first}
use Rattle.smk_laws_plan.proofs.CurrentMeaning.{ready_listed, source_chosen, source_lists}
use Rattle.smk_laws_plan.proofs.CurrentProducts.{Planned, Rested}
use Rattle.smk_laws_plan.proofs.CurrentReach.{Reached, choice_known, reached_zero}
use Rattle.smk_laws_plan.proofs.PlanOne.{derived, derived_reached}
use Rattle.smk_laws_plan.proofs.PlanOrder.{walked_reached}
use Rattle.smk_laws_history.proofs.CurrentLaw.{listing_either}
use Rattle.smk_laws_history.proofs.CurrentReads.{wanted_comes}
use Rattle.smk_laws_complete.specs.Listed.{AreMeant, HasFiles, IsMeant, all_known}
use Rattle.smk_laws_complete.proofs.Made.{listed_made}
use Rattle.smk_laws_complete.proofs.Meant.{rested_so}
use Rattle.smk_laws_complete.specs.Valued.{AreMeantBy, NewAreMeant}

one_of : {A : Type 0} (o : Option A) (x : A) → IsIn (none_or_one o) x → o ≡ Some x
one_of None x i = absurd i
one_of (Some y) x (inl e) = ap Some (sym e)
one_of (Some y) x (inr none) = absurd none

module _ (flow : Flow) (act : Act) (image : Image) (H : Versions) (settings : Settings) (progress : Progress) (plan : Plan)
    (planned : Planned flow image settings progress plan) (rest : Rested flow act all_known image H settings progress plan) where
  abbrev S : Setting
  S = setting_of flow act all_known image

  abbrev srcs : Sources
  srcs = sources_of image

  abbrev L : Listings
  L = plan.lists

  abbrev walked : List Candidate
  walked = flat_map (walk flow srcs L 200) settings.targets

  abbrev IsReady : Path → Type 0
  IsReady d = is_ready image settings progress plan d ≡ true

  -- it is meant as its record has it
  abbrev IsKnownSo : Path → Type 0
  IsKnownSo d = IsMeant S L settings.targets d (files_listed image d)

  -- the candidate of a job of the plan
  of_job : (j : Job) → IsIn plan.jobs j → (c : Candidate) × IsIn walked c × (j ≡ job flow L c)
  of_job j i =
      let are = (derived flow image L settings.targets plan.jobs planned.complete planned.derived.derived).1 in
      let c = map_in (job flow L) (distinct same_candidate walked) j (subst (λ js. IsIn js j) (sym are) i) in
      (c.0, distinct_in same_candidate walked c.0 c.1, c.2)

  value_of : (j : Job) (d : Path) → IsIn plan.jobs j → IsIn (gathers_from j) d → IsReady d → HasFiles S d (files_listed image d)
  value_of j d i g ready =
      let w = wanted_comes flow act all_known image H settings progress plan planned j d i (in_right d (in_paths j.recipe) (gathers_from j) g) in
      go w.0 w.1 w.2 (choice_known flow srcs L w.0 d (w.2).calm)
    where
      made_so : (n : ℕ) → suc n ≤ 200 → Reached flow srcs L walked n d → (c : Candidate) → choose flow srcs d ≡ Make c → HasFiles S d (files_listed image d)
      made_so zero b h c e = absurd (reached_zero flow srcs L walked d c h e)
      made_so (suc m) b h c e =
          let v = ready_listed flow act all_known image H settings progress plan (bound_fills_from numbered_all) rest m d h ready in
          (v.0, mean_deeper S (suc m) 200 d v.0 (omega arith) v.1, v.2)

      go :
          (n : ℕ) → suc n ≤ 200 → Reached flow srcs L walked n d → (choose flow srcs d ≡ Source) ⊎ ((c : Candidate) × (choose flow srcs d ≡ Make c)) →
          HasFiles S d (files_listed image d)
      go n b h (inl s) = source_lists flow act all_known image H settings progress plan (bound_fills_from numbered_all) rest 200 d (source_chosen flow srcs d s)
      go n b h (inr (c, e)) = made_so n b h c e

  gathered_known : (j : Job) (d : Path) → IsIn plan.jobs j → IsIn (gathers_from j) d → IsReady d → IsKnownSo d
  gathered_known j d i g ready =
      let c = of_job j i in
      inl
      (record { reader = c.0; walked = c.1; gathers = subst (λ (x : Job). IsIn (gathers_from x) d) c.2 g; told = value_of j d i g ready })

  output_known : (j : Job) (d : Path) → IsIn plan.jobs j → IsIn (folders_of j.recipe) d → IsReady d → IsKnownSo d
  output_known j d i k ready =
      let c = of_job j i in
      let t = flat_in (walk flow srcs L 200) settings.targets c.0 c.1 in
      let w =
      walked_reached flow srcs L walked 200 t.0 c.0
      (derived_reached flow image L settings.targets plan.jobs planned.complete planned.derived.derived t.0 t.1) t.2 in
      let folder : IsIn (folders_of (recipe flow L c.0)) d = subst (λ (x : Job). IsIn (folders_of x.recipe) d) c.2 k in
      let out = folders_paths (recipe flow L c.0) d folder in
      let v = listed_made flow act all_known image H settings progress plan rest w.0 w.1 c.0 w.2 w.3 d out ready folder in
      inr (record { maker = c.0; walked = c.1; is_output = out; makes = (w.0, w.4, v.0, v.1, v.2) })

  over_known : (q d : Path) → IsIn (directory_over plan q) d → IsReady d → IsKnownSo d
  over_known q d i ready =
      let e = flat_in (λ (e : Job × State). none_or_one (folder_over e.0.recipe q)) (none_or_one (maker_of plan q)) d i in
      let m = find_in (λ (e : Job × State). makes e.0 q) (staged plan) e.0 (one_of (maker_of plan q) e.0 e.1) in
      let f = find_in (is_under q) (folders_of (e.0).0.recipe) d (one_of (folder_over (e.0).0.recipe q) d e.2) in
      output_known (e.0).0 d (zip_first plan.jobs plan.states (e.0).0 (e.0).1 m.0) f.0 ready

  awaited_known : (d : Path) → IsIn (awaited image settings progress plan) d → IsReady d → IsKnownSo d
  awaited_known d i ready =
      go
      (in_either d (flat_map (awaits plan) plan.jobs) (flat_map (directory_over plan) settings.targets)
      (distinct_in bytes_eq (flat_map (awaits plan) plan.jobs ++ flat_map (directory_over plan) settings.targets) d i))
    where
      by_job : (j : Job) → IsIn plan.jobs j → IsIn (gathers_from j) d ⊎ IsIn (flat_map (directory_over plan) (in_paths j.recipe ++ gathers_from j)) d → IsKnownSo d
      by_job j ij (inl g) = gathered_known j d ij g ready
      by_job j ij (inr k) = let q = flat_in (directory_over plan) (in_paths j.recipe ++ gathers_from j) d k in over_known q.0 d q.2 ready

      go : IsIn (flat_map (awaits plan) plan.jobs) d ⊎ IsIn (flat_map (directory_over plan) settings.targets) d → IsKnownSo d
      go (inl k) =
          let j = flat_in (awaits plan) plan.jobs d k in
          by_job j.0 j.1 (in_either d (gathers_from j.0) (flat_map (directory_over plan) (in_paths (j.0).recipe ++ gathers_from j.0)) j.2)
      go (inr k) = let q = flat_in (directory_over plan) settings.targets d k in over_known q.0 d q.2 ready

  abbrev new : Listings
  new = new_listings image settings progress plan

  pub known_so : AreMeant S L settings.targets → AreMeantBy flow act image settings plan new
  known_so meant f files e = go (listing_either L new f files e)
    where
      go : (listing L f ≡ Some files) ⊎ (listing new f ≡ Some files) → IsMeant S L settings.targets f files
      go (inl a) = meant f files a
      go (inr b) =
          let r = mapped (λ (k : Known). k.files) (find (λ (k : Known). bytes_eq k.folder f) new) files b in
          let k = find_in (λ (k : Known). bytes_eq k.folder f) new r.0 r.1 in
          let d =
          map_in (λ d. record { folder = d; files = files_listed image d })
          (filter (λ d. is_ready image settings progress plan d && is_none (listing plan.lists d)) (awaited image settings progress plan)) r.0 k.0 in
          let g =
          filter_in (λ d. is_ready image settings progress plan d && is_none (listing plan.lists d)) (awaited image settings progress plan) d.0 d.1 in
          let path : d.0 ≡ f = sym (ap (λ (k : Known). k.folder) d.2) ∙ same_place r.0.folder f k.1 in
          let told : files_listed image d.0 ≡ files = sym (ap (λ (k : Known). k.files) d.2) ∙ r.2 in
          subst (λ (x : Path × List Path). IsMeant S L settings.targets x.0 x.1) (λ i. (path i, told i))
          (awaited_known d.0 g.0 (and_left (is_ready image settings progress plan d.0) _ g.1))

pub new_are_meant : NewAreMeant
new_are_meant flow act image settings progress plan m H differ sound =
    let planned : Planned flow image settings progress plan = record { complete = m.complete; valid = m.valid; derived = m.is_plan } in
    known_so flow act image H settings progress plan planned (rested_so flow act image H settings progress plan planned sound differ m.meant) m.meant
