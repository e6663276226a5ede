-- Along a chain of plans listings tell the files of clean values, and of what jobs make of such.
use Rattle.std.proofs.Common.{◌≡◌, ◌⊎◌, inl, inr, ℕ, zero, suc, ◌≤◌, Bool, true, false, ◌&&◌, ◌||◌, List, [], ◌∷◌, ◌++◌, map, filter, flat_map, find, refl, sym, ap, subst, ◌∙◌, arith, Option, Some, None, is_none, eq-eqb, zip}
use Rattle.std.specs.Prelude.{bytes_eq, not}
use lib.Pointwise.{pointwise}
use Rattle.smk_base.specs.Path.{is_under, overlaps}
use Rattle.smk_base.specs.declared.tree.Pair.{Pair}
use Rattle.smk_base.proofs.Places.{place_itself, same_place}
use Rattle.smk_world.specs.World.{in_paths, out_paths}
use Rattle.smk_world.specs.Trees.{Act, IsIn, Path, among, files_of, folder_over, folders_of}
use Rattle.smk_record.specs.Records.{same_pair}
use Rattle.smk_pattern.proofs.Names.{numbered_all}
use Rattle.smk_flow.specs.declared.job.Job.{Job}
use Rattle.smk_flow.specs.Flows.{Candidate, Flow}
use Rattle.smk_choose.specs.Choose.{Make, Source, Sources, choose}
use Rattle.smk_store.specs.Images.{Image}
use Rattle.smk_store.specs.Soundness.{Sound}
use Rattle.smk_store.specs.Trust.{SumsDiffer, Versions}
use Rattle.smk_chain.specs.declared.jobs.Known.{Known}
use Rattle.smk_chain.specs.Derive.{Derived, Listings, derivation, distinct, job, listing, recipe, same_candidate, sources_of, walk}
use Rattle.smk_chain.specs.Mean.{Setting, setting_of}
use Rattle.smk_trigger.specs.declared.reason.State.{State}
use Rattle.smk_trigger.specs.JobStates.{is_restore}
use Rattle.smk_pick.specs.declared.settings.Settings.{Settings}
use Rattle.smk_plan.specs.States.{IsPlan, Last, LastPlan, Plan, Progress, Then, awaited, awaits, directory_over, files_listed, gathers_from, is_at_hand, is_open_now, is_ready, is_restored, kept_state, maker_of, makes, new_listings, none_or_one, staged, state_of, test_some}
use Rattle.smk_laws_plan.specs.Current.{GathersRight, HasValidRecords, IsComplete, eased_by}
use Rattle.smk_laws_plan.proofs.CurrentApart.{JobsApart, maker_found, makes_above}
use Rattle.smk_laws_plan.proofs.CurrentChosen.{folders_paths, mapped}
use Rattle.smk_laws_plan.proofs.CurrentDepths.{mean_deeper}
use Rattle.smk_laws_plan.proofs.CurrentFills.{bound_fills_from}
use Rattle.smk_laws_plan.proofs.CurrentLists.{and_both, and_left, any_from, any_in, any_none, clash_of, distinct_in, filter_in, find_in, flat_in, in_distinct, in_either, in_flat, in_left, in_map, in_right, map_in, not_false, or_first, or_left, or_second, some_inj, zip_first}
use Rattle.smk_laws_plan.proofs.CurrentMeaning.{contains_from, in_from, ready_listed, source_chosen, source_lists}
use Rattle.smk_laws_plan.proofs.CurrentPaths.{Touch, above_touch, in_among, touch_overlaps, touch_turned}
use Rattle.smk_laws_plan.proofs.CurrentProducts as products
use Rattle.smk_laws_plan.proofs.CurrentProducts.{Planned, Rested}
use Rattle.smk_laws_plan.proofs.CurrentReach.{Reached, choice_known, reached_zero}
use Rattle.smk_laws_plan.proofs.CurrentValues.{mean_by}
use Rattle.smk_laws_plan.proofs.CurrentWalked.{candidate_trans, chosen_same, walked_chosen}
use Rattle.smk_laws_plan.proofs.PlanOne.{derived, derived_apart, derived_reached, job_makes}
use Rattle.smk_laws_plan.proofs.PlanOrder.{own_walked, source_unmade, walked_reached}
use Rattle.smk_laws_history.proofs.CurrentLaw.{last_is, listing_either}
use Rattle.smk_laws_history.proofs.CurrentReads.{wanted_comes}
use Rattle.smk_laws_history.proofs.MoreListings.{keeps_jobs, listing_still, walk_more}
use Rattle.smk_laws_complete.specs.Listed.{AreMeant, AwaitedAreRecorded, GatheredAreRecorded, HasFiles, IsGatheredSo, IsMeant, IsOutputSo, ListingsStayMeant, MakesFiles, all_known}
use Rattle.smk_laws_complete.proofs.Fewer.{sound_fewer}
use Rattle.smk_laws_complete.proofs.Made.{listed_made, made_deeper}

-- ## What is told of a listing

-- with more listings the walk comes to the job still
walked_still :
    (S : Setting) (L M : Listings) (targets : List Path) (c : Candidate) → IsIn (flat_map (walk S.flow S.sources L 200) targets) c →
    IsIn (flat_map (walk S.flow S.sources (L ++ M) 200) targets) c
walked_still S L M targets c i =
    let t = flat_in (walk S.flow S.sources L 200) targets c i in
    in_flat (walk S.flow S.sources (L ++ M) 200) targets t.0 c t.1 (walk_more S.flow S.sources L M 200 t.0 c t.2)

meant_still :
    (S : Setting) (L M : Listings) (targets : List Path) (f : Path) (files : List Path) → IsMeant S L targets f files → IsMeant S (L ++ M) targets f files
meant_still S L M targets f files (inl g) =
    inl (record { reader = g.reader; walked = walked_still S L M targets g.reader g.walked; gathers = g.gathers; told = g.told })
meant_still S L M targets f files (inr o) =
    inr (record { maker = o.maker; walked = walked_still S L M targets o.maker o.walked; is_output = o.is_output; makes = o.makes })

-- what is told of one value is the same
same_files : (S : Setting) (f : Path) (a b : List Path) → HasFiles S f a → HasFiles S f b → a ≡ b
same_files S f a b h k = h.2 ∙ (ap files_of (some_inj h.0 k.0 (sym h.1 ∙ k.1)) ∙ sym k.2)

made_files : (S : Setting) (c : Candidate) (f : Path) (a b : List Path) → MakesFiles S c f a → MakesFiles S c f b → a ≡ b
made_files S c f a b h k =
    let low : h.0 ≤ 199 = let x = h.1 in omega arith in
    let high : k.0 ≤ 199 = let x = k.1 in omega arith in
    h.4
    ∙ (ap files_of (some_inj h.2 k.2 (sym (made_deeper S h.0 199 low c f h.2 h.3) ∙ made_deeper S k.0 199 high c f k.2 k.3)) ∙ sym k.4)

-- ## Small facts

pairs_self : (ps : List Pair) → pointwise same_pair ps ps ≡ true
pairs_self [] = refl
pairs_self (p ∷ ps) = and_both _ _ (and_both _ _ (place_itself p.name) (place_itself p.value)) (pairs_self ps)

candidate_self : (c : Candidate) → same_candidate c c ≡ true
candidate_self c = and_both _ _ (eq-eqb c.rule c.rule refl) (pairs_self c.binding)

one_of : {A : Type 0} (o : Option A) (x : A) → IsIn (none_or_one o) x → o ≡ Some x
one_of None x i = absurd i
one_of (Some y) x (inl e) = ap Some (sym e)
one_of (Some y) x (inr none) = absurd none

second : (o : Option (Job × State)) (x : Job × State) (b : Bool) → o ≡ Some x → (is_none o || b) ≡ true → b ≡ true
second o x b e h = sym (ap (λ o. is_none o || b) e) ∙ h

-- of the jobs of candidates that lie apart no two have outputs that touch
one_maker :
    (flow : Flow) (L : Listings) (cs : List Candidate) (a b : Candidate) (p q : Path) → JobsApart (map (job flow L) cs) → IsIn cs a → IsIn cs b →
    IsIn (out_paths (recipe flow L a)) p → IsIn (out_paths (recipe flow L b)) q → Touch p q → a ≡ b
one_maker flow L [] a b p q apart i k ip iq t = absurd i
one_maker flow L (x ∷ xs) a b p q apart (inl e) (inl f) ip iq t = e ∙ sym f
one_maker flow L (x ∷ xs) a b p q apart (inl e) (inr k) ip iq t =
    absurd
    (clash_of (overlaps q p) (touch_overlaps q p (touch_turned p q t))
    (apart.0 (job flow L b) p q (in_map (job flow L) xs b k) (subst (λ (c : Candidate). IsIn (out_paths (recipe flow L c)) p) e ip) iq))
one_maker flow L (x ∷ xs) a b p q apart (inr i) (inl f) ip iq t =
    absurd
    (clash_of (overlaps p q) (touch_overlaps p q t)
    (apart.0 (job flow L a) q p (in_map (job flow L) xs a i) (subst (λ (c : Candidate). IsIn (out_paths (recipe flow L c)) q) f iq) ip))
one_maker flow L (x ∷ xs) a b p q apart (inr i) (inr k) ip iq t = one_maker flow L xs a b p q apart.2 i k ip iq t

module _ (flow : Flow) (act : Act) (image : Image) (H : Versions) (settings : Settings) (progress : Progress) where
  abbrev pub S : Setting
  S = setting_of flow act all_known image

  abbrev srcs : Sources
  srcs = sources_of image

  -- ## One plan

  module _ (plan : Plan) (planned : Planned flow image settings progress plan) where
    abbrev L : Listings
    L = plan.lists

    abbrev walked : List Candidate
    walked = flat_map (walk flow srcs L 200) settings.targets

    abbrev Comes : ℕ → Path → Type 0
    Comes n p = Reached flow srcs L walked n p

    jobs_are : map (job flow L) (distinct same_candidate walked) ≡ plan.jobs
    jobs_are = (derived flow image L settings.targets plan.jobs planned.complete planned.derived.derived).1

    chosen_for : (c : Candidate) → IsIn walked c → (q : Path) × (choose flow srcs q ≡ Make c)
    chosen_for c i = let t = flat_in (walk flow srcs L 200) settings.targets c i in walked_chosen flow srcs L 200 t.0 c t.2

    listed_once : (c : Candidate) → IsIn walked c → IsIn (distinct same_candidate walked) c
    listed_once c i =
        let d = in_distinct same_candidate candidate_self candidate_trans walked c i in
        let p = chosen_for c i in
        let q = chosen_for d.0 (distinct_in same_candidate walked d.0 d.1) in
        subst (IsIn (distinct same_candidate walked)) (chosen_same flow srcs L q.0 p.0 d.0 c q.1 p.1 d.2) d.1

    apart : JobsApart (map (job flow L) (distinct same_candidate walked))
    apart = subst JobsApart (sym jobs_are) (derived_apart flow image L settings.targets plan.jobs planned.complete planned.derived.derived)

    abbrev states : Job → State
    states j = state_of image settings progress plan j

    -- where the walk comes to a path, and to a job that has it as an output, this job is the one that is chosen
    same_maker :
        (n : ℕ) (f : Path) (c d : Candidate) → Comes n f → choose flow srcs f ≡ Make d → IsIn walked c → IsIn (out_paths (recipe flow L c)) f → d ≡ c
    same_maker n f c d comes e i out =
        let m = makes_above (job flow L d) f (job_makes flow srcs L f d e) in
        one_maker flow L (distinct same_candidate walked) d c m.0 f apart (listed_once d (comes.within d (own_walked flow srcs L walked n f d comes e)))
        (listed_once c i) m.1 out (above_touch f m.0 f m.2 (inl refl))

    comes_to : (j : Job) (f : Path) → IsIn plan.jobs j → IsIn (gathers_from j) f → (n : ℕ) × (suc n ≤ 200) × Comes n f
    comes_to j f i g =
        wanted_comes flow act all_known image H settings progress plan planned j f i (in_right f (in_paths j.recipe) (gathers_from j) g)

    -- where a job gathers from the path it has a clean value with these files
    as_value : (j : Job) (f : Path) (files : List Path) → IsIn plan.jobs j → IsIn (gathers_from j) f → IsMeant S L settings.targets f files → HasFiles S f files
    as_value j f files i g told = let w = comes_to j f i g in go w.0 w.2 told (choice_known flow srcs L w.0 f w.2.calm)
      where
        go :
            (n : ℕ) → Comes n f → IsMeant S L settings.targets f files → (choose flow srcs f ≡ Source) ⊎ ((d : Candidate) × (choose flow srcs f ≡ Make d)) →
            HasFiles S f files
        go n comes (inl h) choice = h.told
        go n comes (inr o) (inl s) =
            let p = chosen_for o.maker o.walked in
            absurd
            (clash_of (makes (job flow L o.maker) f) (or_first _ _ (in_among (out_paths (recipe flow L o.maker)) f o.is_output))
            (source_unmade flow image L planned.complete p.0 f o.maker p.1 (source_chosen flow srcs f s)))
        go n comes (inr o) (inr (d, s)) =
            let m = o.makes in
            let same : choose flow srcs f ≡ Make o.maker = s ∙ ap Make (same_maker n f o.maker d comes s o.walked o.is_output) in
            (m.2, mean_deeper S (suc m.0) 200 f m.2 m.1 (ap (mean_by S m.0 f) same ∙ m.3), m.4)

    -- what a job gathers is listed as its clean value has it
    pub gathered_right :
        AreMeant S L settings.targets → (j : Job) (f : Path) (files : List Path) → IsIn plan.jobs j → IsIn (gathers_from j) f → listing L f ≡ Some files →
        HasFiles S f files
    gathered_right are j f files i g e = as_value j f files i g (are f files e)

    of_reader : (c : Candidate) → IsIn walked c → IsIn plan.jobs (job flow L c)
    of_reader c i = subst (λ js. IsIn js (job flow L c)) jobs_are (in_map (job flow L) (distinct same_candidate walked) c (listed_once c i))

    -- so all that is told of a path is the same
    told_once : (f : Path) (a b : List Path) → IsMeant S L settings.targets f a → IsMeant S L settings.targets f b → a ≡ b
    told_once f a b (inl g) k = same_files S f a b g.told (as_value (job flow L g.reader) f b (of_reader g.reader g.walked) g.gathers k)
    told_once f a b (inr o) (inl g) = same_files S f a b (as_value (job flow L g.reader) f a (of_reader g.reader g.walked) g.gathers (inr o)) g.told
    told_once f a b (inr o) (inr u) =
        let same : u.maker ≡ o.maker =
        one_maker flow L (distinct same_candidate walked) u.maker o.maker f f apart (listed_once u.maker u.walked) (listed_once o.maker o.walked) u.is_output
        o.is_output (inl refl) in
        made_files S o.maker f a b o.makes (subst (λ c. MakesFiles S c f b) same u.makes)

    pub rested_so :
        Sound act H image (eased_by image (is_restored image settings progress plan)) → SumsDiffer H → AreMeant S L settings.targets →
        Rested flow act all_known image H settings progress plan
    rested_so sound differ meant =
        record {
          sound = sound;
          differ = differ;
          planned = planned;
          lists = λ j f files i shut g e. inr (gathered_right meant j f files i g e);
          fields = λ j there shut. refl;
        }

    -- ## What becomes known

    module _ (rest : Rested flow act all_known image H settings progress plan) where
      gathered_value : (j : Job) (d : Path) → IsIn plan.jobs j → IsIn (gathers_from j) d → is_at_hand image settings progress plan d ≡ true →
          HasFiles S d (files_listed image d)
      gathered_value j d i g hand = let w = comes_to j d i g in go w.0 w.1 w.2 (choice_known flow srcs L w.0 d w.2.calm)
        where
          made_so : (n : ℕ) → suc n ≤ 200 → Comes n d → (c : Candidate) → choose flow srcs d ≡ Make c → HasFiles S d (files_listed image d)
          made_so zero b h c e = absurd (reached_zero flow srcs L _ d c h e)
          made_so (suc m) b h c e =
              let ready =
              second (maker_of plan d) _ (is_ready image settings progress plan d)
              (products.maker_is flow act all_known image H settings progress plan (bound_fills_from numbered_all) planned (suc m) d c h e) hand in
              let v = ready_listed flow act all_known image H settings progress plan (bound_fills_from numbered_all) rest m d h ready in
              (v.0, mean_deeper S (suc m) 200 d v.0 (omega arith) v.1, v.2)

          go :
              (n : ℕ) → suc n ≤ 200 → Comes n d → (choose flow srcs d ≡ Source) ⊎ ((c : Candidate) × (choose flow srcs d ≡ Make c)) →
              HasFiles S d (files_listed image d)
          go n b h (inl s) =
              source_lists flow act all_known image H settings progress plan (bound_fills_from numbered_all) rest 200 d (source_chosen flow srcs d s)
          go n b h (inr (c, e)) = made_so n b h c e

      -- the candidate of a job of the plan
      of_job : (j : Job) → IsIn plan.jobs j → (c : Candidate) × IsIn walked c × (j ≡ job flow L c)
      of_job j i =
          let c = map_in (job flow L) (distinct same_candidate walked) j (subst (λ js. IsIn js j) (sym jobs_are) i) in
          (c.0, distinct_in same_candidate walked c.0 c.1, c.2)

      gathered_known : (j : Job) (d : Path) → IsIn plan.jobs j → IsIn (gathers_from j) d → is_at_hand image settings progress plan d ≡ true →
          IsGatheredSo S L settings.targets d (files_listed image d)
      gathered_known j d i g hand =
          let c = of_job j i in
          record {
            reader = c.0;
            walked = c.1;
            gathers = subst (λ (x : Job). IsIn (gathers_from x) d) c.2 g;
            told = gathered_value j d i g hand;
          }

      output_known : (j : Job) (d : Path) → IsIn plan.jobs j → IsIn (folders_of j.recipe) d → is_at_hand image settings progress plan d ≡ true →
          IsOutputSo S L settings.targets d (files_listed image d)
      output_known j d i k hand =
          let c = of_job j i in
          let t = flat_in (walk flow srcs L 200) settings.targets c.0 c.1 in
          let w =
          walked_reached flow srcs L walked 200 t.0 c.0
          (derived_reached flow image L settings.targets plan.jobs planned.complete planned.derived.derived t.0 t.1) t.2 in
          let folder : IsIn (folders_of (recipe flow L c.0)) d = subst (λ (x : Job). IsIn (folders_of x.recipe) d) c.2 k in
          let out = folders_paths (recipe flow L c.0) d folder in
          let v = listed_made flow act all_known image H settings progress plan rest w.0 w.1 c.0 w.2 w.3 d out ready folder in
          record { maker = c.0; walked = c.1; is_output = out; makes = (w.0, w.4, v.0, v.1, v.2) }
        where
          its : makes j d ≡ true
          its = or_first (among (out_paths j.recipe) d) _ (in_among (out_paths j.recipe) d (folders_paths j.recipe d k))

          ready : is_ready image settings progress plan d ≡ true
          ready =
              second (maker_of plan d) (j, states j) (is_ready image settings progress plan d)
              (ap (λ ss. find (λ (e : Job × State). makes e.0 d) (zip plan.jobs ss)) planned.derived.states
              ∙ maker_found states plan.jobs j d
              (derived_apart flow image L settings.targets plan.jobs planned.complete planned.derived.derived) i its)
              hand

      abbrev IsKnownSo : Path → Type 0
      IsKnownSo d = IsMeant S L settings.targets d (files_listed image d)

      over_known : (q d : Path) → IsIn (directory_over plan q) d → is_at_hand image settings progress plan d ≡ true → IsKnownSo d
      over_known q d i hand =
          let e = flat_in (λ (e : Job × State). none_or_one (folder_over e.0.recipe q)) (none_or_one (maker_of plan q)) d i in
          let m = find_in (λ (e : Job × State). makes e.0 q) (staged plan) e.0 (one_of (maker_of plan q) e.0 e.1) in
          let f = find_in (is_under q) (folders_of (e.0).0.recipe) d (one_of (folder_over (e.0).0.recipe q) d e.2) in
          inr (output_known (e.0).0 d (zip_first plan.jobs plan.states (e.0).0 (e.0).1 m.0) f.0 hand)

      awaited_known : (d : Path) → IsIn (awaited image settings progress plan) d → is_at_hand image settings progress plan d ≡ true → IsKnownSo d
      awaited_known d i hand =
          go
          (in_either d (flat_map (awaits plan) plan.jobs) (flat_map (directory_over plan) settings.targets)
          (distinct_in bytes_eq (flat_map (awaits plan) plan.jobs ++ flat_map (directory_over plan) settings.targets) d i))
        where
          by_job :
              (j : Job) → IsIn plan.jobs j → IsIn (gathers_from j) d ⊎ IsIn (flat_map (directory_over plan) (in_paths j.recipe ++ gathers_from j)) d →
              IsKnownSo d
          by_job j ij (inl g) = inl (gathered_known j d ij g hand)
          by_job j ij (inr k) = let q = flat_in (directory_over plan) (in_paths j.recipe ++ gathers_from j) d k in over_known q.0 d q.2 hand

          go : IsIn (flat_map (awaits plan) plan.jobs) d ⊎ IsIn (flat_map (directory_over plan) settings.targets) d → IsKnownSo d
          go (inl k) =
              let j = flat_in (awaits plan) plan.jobs d k in
              by_job j.0 j.1 (in_either d (gathers_from j.0) (flat_map (directory_over plan) (in_paths (j.0).recipe ++ gathers_from j.0)) j.2)
          go (inr k) = let q = flat_in (directory_over plan) settings.targets d k in over_known q.0 d q.2 hand

      abbrev new : Listings
      new = new_listings image settings progress plan

      -- so with what becomes known besides all listings are meant
      more_meant : AreMeant S L settings.targets → AreMeant S (L ++ new) settings.targets
      more_meant meant f files e = meant_still S L new settings.targets f files (go (listing_either L new f files e))
        where
          go : (listing L f ≡ Some files) ⊎ (listing new f ≡ Some files) → IsMeant S L settings.targets f files
          go (inl a) = meant f files a
          go (inr b) =
              let r = mapped (λ (k : Known). k.files) (find (λ (k : Known). bytes_eq k.folder f) new) files b in
              let k = find_in (λ (k : Known). bytes_eq k.folder f) new r.0 r.1 in
              let d =
              map_in (λ d. record { folder = d; files = files_listed image d })
              (filter (λ d. is_ready image settings progress plan d && is_none (listing plan.lists d)) (awaited image settings progress plan)) r.0 k.0 in
              let g =
              filter_in (λ d. is_ready image settings progress plan d && is_none (listing plan.lists d)) (awaited image settings progress plan) d.0 d.1 in
              let path : d.0 ≡ f = sym (ap (λ (k : Known). k.folder) d.2) ∙ same_place r.0.folder f k.1 in
              let told : files_listed image d.0 ≡ files = sym (ap (λ (k : Known). k.files) d.2) ∙ r.2 in
              subst (λ (x : Path × List Path). IsMeant S L settings.targets x.0 x.1) (λ i. (path i, told i))
              (awaited_known d.0 g.0
              (or_second (is_none (maker_of plan d.0)) (is_ready image settings progress plan d.0) (and_left (is_ready image settings progress plan d.0) _ g.1)))

    -- ## What is gathered now

    module _ (rest : Rested flow act all_known image H settings progress plan) (are : AreMeant S L settings.targets) where
      -- what is awaited and at hand is listed as the directory's record has it
      pub awaited_now :
          (d : Path) (files : List Path) → IsIn (awaited image settings progress plan) d → is_at_hand image settings progress plan d ≡ true →
          listing L d ≡ Some files → files ≡ files_listed image d
      awaited_now d files i hand e = told_once d files (files_listed image d) (are d files e) (awaited_known rest d i hand)

      -- so is what a job gathers that isn't Open
      pub gathered_now :
          (j : Job) (f : Path) (files : List Path) → IsIn plan.jobs j → is_open_now image settings progress plan j ≡ false → IsIn (gathers_from j) f →
          listing L f ≡ Some files → files ≡ files_listed image f
      gathered_now j f files i shut g e =
          same_files S f files (files_listed image f) (gathered_right are j f files i g e) (gathered_value rest j f i g hand)
        where
          hand : is_at_hand image settings progress plan f ≡ true
          hand =
              not_false (is_at_hand image settings progress plan f)
              (any_none (λ d. not (is_at_hand image settings progress plan d)) (awaits plan j) f (or_left _ _ shut)
              (in_left f (gathers_from j) (flat_map (directory_over plan) (in_paths j.recipe ++ gathers_from j)) g))

  -- ## The chain

  module _ (complete : IsComplete image) (valid : HasValidRecords image) (differ : SumsDiffer H) where
    planned_so : (plan : Plan) → IsPlan flow image settings progress plan → Planned flow image settings progress plan
    planned_so plan is = record { complete = complete; valid = valid; derived = is }

    -- the outputs of jobs that run as a Restore are such by the next plan too
    restored_on :
        (p q : Plan) (M : Listings) → IsPlan flow image settings progress p → IsPlan flow image settings progress q → q.lists ≡ p.lists ++ M → (x : Path) →
        is_restored image settings progress p x ≡ true → is_restored image settings progress q x ≡ true
    restored_on p q M is later lists x h =
        let j = any_in (λ j. test_some is_restore (kept_state image settings progress p j) && among (out_paths j.recipe) x) p.jobs h in
        let k =
        keeps_jobs flow image settings progress p M q.jobs complete is
        (subst (λ L. derivation flow image L settings.targets ≡ Derived q.jobs) lists later.derived) j.0 (contains_from p.jobs j.0 j.1) in
        any_from (λ j. test_some is_restore (kept_state image settings progress q j) && among (out_paths j.recipe) x) q.jobs k.0 (in_from q.jobs k.0 k.1)
        (subst (λ (y : Job). (test_some is_restore (kept_state image settings progress q y) && among (out_paths y.recipe) x) ≡ true) (sym k.2) j.2)

    -- the first plan of a chain, as seen from its last one
    record HasBegun (L : Listings) (last : Plan) : Type 0 where
      plan : Plan
      is : IsPlan flow image settings progress plan
      lists : plan.lists ≡ L
      restored : (x : Path) → is_restored image settings progress plan x ≡ true → is_restored image settings progress last x ≡ true

    begun : (L : Listings) (last : Plan) → LastPlan flow image settings progress L last → HasBegun L last
    begun L last (Last p is done) = record { plan = p; is = is; lists = refl; restored = λ x h. h }
    begun L last (Then p q is more rest) =
        let r = begun (p.lists ++ new_listings image settings progress p) q rest in
        record {
          plan = p;
          is = is;
          lists = refl;
          restored = λ x h. r.restored x (restored_on p r.plan (new_listings image settings progress p) is r.is r.lists x h);
        }

    -- What is sound by the last plan is so by each, and listings stay meant.
    pub chain_meant :
        (L : Listings) (last : Plan) → LastPlan flow image settings progress L last →
        Sound act H image (eased_by image (is_restored image settings progress last)) → AreMeant S L settings.targets → AreMeant S last.lists settings.targets
    chain_meant L last (Last p is done) sound meant = meant
    chain_meant L last (Then p q is more rest) sound meant =
        let new = new_listings image settings progress p in
        let r = begun (p.lists ++ new) q rest in
        let here =
        sound_fewer image (eased_by image (is_restored image settings progress p)) (eased_by image (is_restored image settings progress q))
        (λ x s e. (r.restored x (restored_on p r.plan new is r.is r.lists x e.0), e.1)) act H sound in
        chain_meant (p.lists ++ new) q rest sound
        (more_meant p (planned_so p is) (rested_so p (planned_so p is) here differ meant) meant)

    last_still :
        (L : Listings) (last : Plan) → LastPlan flow image settings progress L last → (f : Path) (files : List Path) → listing L f ≡ Some files →
        listing last.lists f ≡ Some files
    last_still L last (Last p is done) f files e = e
    last_still L last (Then p q is more rest) f files e =
        last_still (p.lists ++ new_listings image settings progress p) q rest f files (listing_still p.lists (new_listings image settings progress p) f files e)

    module _ (L : Listings) (last : Plan) (chain : LastPlan flow image settings progress L last)
        (sound : Sound act H image (eased_by image (is_restored image settings progress last))) (meant : AreMeant S L settings.targets) where
      planned_last : Planned flow image settings progress last
      planned_last = planned_so last (last_is flow image settings progress L last chain)

      meant_last : AreMeant S last.lists settings.targets
      meant_last = chain_meant L last chain sound meant

      rested_last : Rested flow act all_known image H settings progress last
      rested_last = rested_so last planned_last sound differ meant_last

      -- what the last plan awaits is listed, where it is at hand, as the directory's record has it
      pub last_awaits :
          (d : Path) (files : List Path) → IsIn (awaited image settings progress last) d → is_at_hand image settings progress last d ≡ true →
          listing last.lists d ≡ Some files → files ≡ files_listed image d
      last_awaits = awaited_now last planned_last rested_last meant_last

      -- so is what a job of it gathers that isn't Open
      pub last_gathers :
          (j : Job) (f : Path) (files : List Path) → IsIn last.jobs j → is_open_now image settings progress last j ≡ false → IsIn (gathers_from j) f →
          listing last.lists f ≡ Some files → files ≡ files_listed image f
      last_gathers = gathered_now last planned_last rested_last meant_last

      -- so the listings with which the chain began are right, whichever fields of commands have values
      pub begun_right : (has_fields : Job → Bool) → GathersRight (setting_of flow act has_fields image) image settings progress last L
      begun_right has_fields j f files there shut gathered listed =
          inl (last_gathers j f files (in_from last.jobs j there) shut (in_from (gathers_from j) f gathered) (last_still L last chain f files listed))

-- ## The laws

pub listings_stay_meant : ListingsStayMeant
listings_stay_meant flow act image H settings progress L plan c =
    chain_meant flow act image H settings progress c.complete c.valid c.differ L plan c.last c.sound c.meant

pub awaited_are_recorded : AwaitedAreRecorded
awaited_are_recorded flow act image H settings progress L plan c =
    last_awaits flow act image H settings progress c.complete c.valid c.differ L plan c.last c.sound c.meant

pub gathered_are_recorded : GatheredAreRecorded
gathered_are_recorded flow act image H settings progress L plan c =
    last_gathers flow act image H settings progress c.complete c.valid c.differ L plan c.last c.sound c.meant
