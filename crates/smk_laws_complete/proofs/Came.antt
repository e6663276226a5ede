-- Listings that became known in a chain of plans are right, where the jobs don't clash.
use Rattle.std.proofs.Common.{◌≡◌, ◌⊎◌, ℕ, suc, ◌≤◌, arith, Bool, true, false, not, cond, ◌&&◌, ◌||◌, List, [], ◌∷◌, ◌++◌, map, flat_map, refl, sym, ap, subst, inl, inr, ◌∙◌, Option, Some, None, is_some, is_none, true≢false, IsTrue}
use Rattle.std.specs.Prelude.{bytes_eq}
use Rattle.std.specs.List.{list_any, find}
use Rattle.smk_base.specs.Path.{is_under, overlaps}
use Rattle.smk_base.specs.declared.tree.Tree.{Tree}
use Rattle.smk_base.proofs.Places.{place_itself, same_place}
use Rattle.smk_world.specs.Calls.{in_folder}
use Rattle.smk_world.specs.World.{in_paths, out_paths}
use Rattle.smk_world.specs.Trees.{Path, Act, among, below, file_in, files_of, folder_over, folders_of, part_at}
use Rattle.smk_pattern.specs.Bound.{BoundFills}
use Rattle.smk_flow.specs.declared.job.Job.{Job}
use Rattle.smk_flow.specs.Flows.{Flow, Candidate, gathered_folders}
use Rattle.smk_choose.specs.Choose.{choose, Source, Make}
use Rattle.smk_store.specs.Images.{Image, is_source}
use Rattle.smk_store.specs.Trust.{Versions, SumsDiffer, none_eased}
use Rattle.smk_store.specs.Soundness.{Sound}
use Rattle.smk_chain.specs.declared.jobs.Known.{Known}
use Rattle.smk_chain.specs.Derive.{Listings, chosen, clashes, job, jobs, listing, recipe, sources_of, spots, walk}
use Rattle.smk_chain.specs.Mean.{Setting, clean_value, mean, setting_of}
use Rattle.smk_trigger.specs.declared.reason.State.{State}
use Rattle.smk_pick.specs.declared.settings.Settings.{Settings}
use Rattle.smk_plan.specs.States.{Plan, Progress, IsPlan, awaited, awaits, files_listed, gathers_from, is_at_hand, is_open_now, is_ready, is_restored, makes, maker_of, new_listings, directory_over, state_of}
use Rattle.smk_laws_plan.specs.Current.{IsComplete, HasValidRecords}
use Rattle.smk_laws_plan.proofs.CurrentLists.{In, and_left, any_none, clash_of, filter_in, find_in, flat_in, in_flat, in_left, in_map, in_right, map_in, none_some, not_false, or_first, or_left, or_right, some_inj}
use Rattle.smk_laws_plan.proofs.CurrentPaths.{Touch, touch_overlaps, touch_turned, Above, above_touch, in_among}
use Rattle.smk_laws_plan.proofs.CurrentReach.{choice_known, reached_own}
use Rattle.smk_laws_plan.proofs.CurrentApart.{JobsApart, jobs_apart, makes_above, spots_apart}
use Rattle.smk_laws_plan.proofs.CurrentChosen.{folders_paths, mapped}
use Rattle.smk_laws_plan.proofs.CurrentDepths.{mean_one}
use Rattle.smk_laws_history.proofs.CurrentEased.{none_restored, sound_none}
use Rattle.smk_laws_history.proofs.CurrentLaw.{listing_either}
use Rattle.smk_laws_plan.proofs.CurrentMeaning.{in_from, ready_listed, source_chosen}
use Rattle.smk_laws_plan.proofs.CurrentProducts.{Planned, Rested, ReachedHere, maker_is}
use Rattle.smk_laws_history.proofs.CurrentReads.{wanted_comes}
use Rattle.smk_laws_history.proofs.MoreListings.{walk_more}
use Rattle.smk_laws_plan.proofs.PlanOne.{chosen_makes, derived, derived_clear}
use Rattle.smk_laws_plan.proofs.PlanOrder.{source_unmade}
use Rattle.smk_laws_complete.specs.Derived.{AllHaveValues, AreRight, GathersAlone, HasListings, HasValue, IsServed}
use Rattle.smk_laws_complete.proofs.Walked.{walked_derived}
use Rattle.smk_laws_complete.proofs.Goods.{derived_jobs_are_good}
use Rattle.smk_laws_complete.proofs.Parts.{part_listed}
use Rattle.smk_laws_complete.proofs.Standing.{stands_in}
use Rattle.smk_laws_complete.proofs.Makers.{Maker, IsMadeReady, awaited_maker, made_ready, ready_files}

-- of jobs that lie apart one alone has an output at or above a path
pub one_of :
    (flow : Flow) (L : Listings) (cs : List Candidate) → JobsApart (map (job flow L) cs) → (c d : Candidate) → In c cs → In d cs →
    (p q : Path) → In p (out_paths (recipe flow L c)) → In q (out_paths (recipe flow L d)) → Touch q p → c ≡ d
one_of flow L [] a c d i k p q ip iq t = absurd i
one_of flow L (x ∷ cs) a c d (inl e) (inl f) p q ip iq t = e ∙ sym f
one_of flow L (x ∷ cs) a c d (inl e) (inr k) p q ip iq t =
    absurd (clash_of (overlaps q p) (touch_overlaps q p t) (a.0 (job flow L d) p q (in_map (job flow L) cs d k) (subst (λ x. In p (out_paths (recipe flow L x))) e ip) iq))
one_of flow L (x ∷ cs) a c d (inr i) (inl f) p q ip iq t =
    absurd (clash_of (overlaps p q) (touch_overlaps p q (touch_turned q p t)) (a.0 (job flow L c) q p (in_map (job flow L) cs c i) (subst (λ x. In q (out_paths (recipe flow L x))) f iq) ip))
one_of flow L (x ∷ cs) a c d (inr i) (inr k) p q ip iq t = one_of flow L cs a.2 c d i k p q ip iq t

own_tree : (p : Path) (t x : Tree) → part_at p p t ≡ Some x → t ≡ x
own_tree p t x e = some_inj t x (sym (ap (λ b. cond b (Some t) (file_in t (below p p))) (place_itself p)) ∙ e)

append_more : (L M N : Listings) → (L ++ M) ++ N ≡ L ++ (M ++ N)
append_more [] M N = refl
append_more (k ∷ L) M N = ap (λ ks. k ∷ ks) (append_more L M N)

-- of a job that isn't Open all that it awaits is at hand, and what is ready is listed
shut_parts :
    (image : Image) (settings : Settings) (progress : Progress) (plan : Plan) (j : Job) → is_open_now image settings progress plan j ≡ false →
    (list_any (λ d. not (is_at_hand image settings progress plan d)) (awaits plan j) ≡ false)
    × (list_any (λ d. is_ready image settings progress plan d && is_none (listing plan.lists d)) (gathers_from j) ≡ false)
shut_parts image settings progress plan j h = (or_left _ _ h, or_left _ _ (or_right _ _ h))

module _
    (flow : Flow) (act : Act) (has_fields : Job → Bool) (image : Image) (H : Versions) (settings : Settings) (progress : Progress)
    (fills : BoundFills) (complete : IsComplete image) (idle : progress.running ≡ []) where
  abbrev S : Setting
  S = setting_of flow act has_fields image

  abbrev derived_with : Listings → List Candidate
  derived_with L = chosen flow (sources_of image) L settings.targets

  -- A listing became known by an earlier plan: that of the record of a directory that is awaited and ready there.
  pub record Came (L : Listings) (f : Path) (files : List Path) : Type 0 where
    pub listed : files ≡ files_listed image f
    pub plan : Plan
    pub rest : Rested flow act has_fields image H settings progress plan
    pub more : Listings
    pub with_more : L ≡ plan.lists ++ more
    pub inn : In f (awaited image settings progress plan)
    pub ready : is_ready image settings progress plan f ≡ true

  -- so all of them did
  abbrev pub AllCame : Listings → Type 0
  AllCame L = (f : Path) (files : List Path) → listing L f ≡ Some files → Came L f files

  module _ (L : Listings) (clear : clashes image [] (flat_map spots (jobs flow (sources_of image) L settings.targets)) ≡ []) where
    apart : JobsApart (jobs flow (sources_of image) L settings.targets)
    apart = jobs_apart (jobs flow (sources_of image) L settings.targets) (spots_apart image [] (flat_map spots (jobs flow (sources_of image) L settings.targets)) clear)

    one_here :
        (c d : Candidate) → In c (derived_with L) → In d (derived_with L) → (p q : Path) → In p (out_paths (recipe flow L c)) →
        In q (out_paths (recipe flow L d)) → Touch q p → c ≡ d
    one_here c d i k p q ip iq t = one_of flow L (derived_with L) apart c d i k p q ip iq t

    module _ (f : Path) (files : List Path) (came : Came L f files) where
      abbrev P : Plan
      P = came.plan

      abbrev rest : Rested flow act has_fields image H settings progress P
      rest = came.rest

      maker : Maker flow act has_fields image H settings progress P fills rest.planned f
      maker = awaited_maker flow act has_fields image H settings progress P fills rest.planned f came.inn came.ready

      -- its job goes on
      goes_on : In maker.by (derived_with L)
      goes_on =
          let all = flat_map (walk flow (sources_of image) P.lists 200) settings.targets in
          let own = reached_own flow (sources_of image) P.lists all maker.left maker.path maker.by maker.comes maker.chosen in
          let t = flat_in (walk flow (sources_of image) P.lists 200) settings.targets maker.by own in
          subst (λ M. In maker.by (derived_with M)) (sym came.with_more)
          (walked_derived flow (sources_of image) (P.lists ++ came.more) settings.targets maker.by
          (in_flat (walk flow (sources_of image) (P.lists ++ came.more) 200) settings.targets t.0 maker.by t.1
          (walk_more flow (sources_of image) P.lists came.more 200 t.0 maker.by t.2)))

      chosen_makes_here : (q : Path) (c : Candidate) → choose flow (sources_of image) q ≡ Make c → makes (job flow P.lists c) q ≡ true
      chosen_makes_here = chosen_makes flow image P.lists settings.targets P.jobs complete rest.planned.derived.derived

      -- an output of its job at or above it
      touching : (o : Path) × In o (out_paths (recipe flow P.lists maker.by)) × Above f o
      touching = go maker.place
        where
          go : (maker.path ≡ f) ⊎ (folder_over (recipe flow P.lists maker.by) maker.path ≡ Some f) → (o : Path) × In o (out_paths (recipe flow P.lists maker.by)) × Above f o
          go (inl s) =
              let r = makes_above (job flow P.lists maker.by) maker.path (chosen_makes_here maker.path maker.by maker.chosen) in
              (r.0, r.1, subst (λ w. Above w r.0) s r.2)
          go (inr o) = (f, folders_paths (recipe flow P.lists maker.by) f ((find_in (is_under maker.path) (folders_of (recipe flow P.lists maker.by)) f o).0), inl refl)

      -- what it makes at the directory, where that is an output of its
      made : In f (out_paths (recipe flow P.lists maker.by)) → IsMadeReady flow act has_fields image H settings progress P fills rest idle f maker
      made i = made_ready flow act has_fields image H settings progress P fills rest idle f maker i came.ready

      before : maker.left ≤ 199
      before = let e = maker.few in omega arith

      -- a path for which its job is chosen is in its tree
      part :
          (i : In f (out_paths (recipe flow P.lists maker.by))) (p : Path) (y : Tree) → choose flow (sources_of image) p ≡ Make maker.by → Above p f →
          mean S 200 p ≡ Some y → part_at f p (made i).there.tree ≡ Some y
      part i p y e above v =
          stands_in flow act has_fields image H settings progress P fills rest maker.left 199 maker.path p maker.by f y before maker.comes maker.chosen (made i).quiet i e above
          (made i).there v

      gathered :
          (c : Candidate) (tree : Tree) → IsServed S L settings.targets f → clean_value S f ≡ Some tree → files ≡ files_of tree
      gathered c tree served v = go maker.place
        where
          own : maker.path ≡ f → files ≡ files_of tree
          own s =
              let comes = subst (ReachedHere flow act has_fields image H settings progress P (suc maker.left)) s maker.comes in
              let r = ready_listed flow act has_fields image H settings progress P fills rest maker.left f comes came.ready in
              came.listed ∙ r.2 ∙ ap files_of (mean_one S (suc maker.left) 200 f r.0 tree r.1 v)

          over : folder_over (recipe flow P.lists maker.by) maker.path ≡ Some f → files ≡ files_of tree
          over o = pick served
            where
              folder : In f (folders_of (recipe flow P.lists maker.by))
              folder = (find_in (is_under maker.path) (folders_of (recipe flow P.lists maker.by)) f o).0

              out : In f (out_paths (recipe flow P.lists maker.by))
              out = folders_paths (recipe flow P.lists maker.by) f folder

              pick : IsServed S L settings.targets f → files ≡ files_of tree
              pick (inl s) =
                  absurd (clash_of (makes (job flow P.lists maker.by) f)
                  (or_first (among (out_paths (recipe flow P.lists maker.by)) f) (is_some (folder_over (recipe flow P.lists maker.by) f)) (in_among (out_paths (recipe flow P.lists maker.by)) f out))
                  (source_unmade flow image P.lists complete maker.path f maker.by maker.chosen (source_chosen flow (sources_of image) f s)))
              pick (inr (d, e, k)) =
                  let r = makes_above (job flow P.lists d) f (chosen_makes_here f d e) in
                  let same : d ≡ maker.by = one_here d maker.by k goes_on r.0 f r.1 out (above_touch f f r.0 (inl refl) r.2) in
                  let t = own_tree f (made out).there.tree tree (part out f tree (subst (λ x. choose flow (sources_of image) f ≡ Make x) same e) (inl refl) v) in
                  came.listed ∙ sym (ready_files flow act has_fields image H settings progress P fills rest idle f maker folder (made out)) ∙ ap files_of t

          go : (maker.path ≡ f) ⊎ (folder_over (recipe flow P.lists maker.by) maker.path ≡ Some f) → files ≡ files_of tree
          go (inl s) = own s
          go (inr o) = over o

      members :
          (c : Candidate) (p : Path) → In c (derived_with L) → choose flow (sources_of image) p ≡ Make c → folder_over (recipe flow L c) p ≡ Some f →
          HasValue S p → among (map (in_folder f) files) p ≡ true
      members c p i e o v =
          let r = find_in (is_under p) (folders_of (recipe flow L c)) f o in
          let same : c ≡ maker.by =
          one_here c maker.by i goes_on f touching.0 (folders_paths (recipe flow L c) f r.0) touching.1 (above_touch f touching.0 f touching.2 (inl refl)) in
          let folder = subst (λ (x : Candidate). In f (folders_of (recipe flow P.lists x))) same r.0 in
          let out = folders_paths (recipe flow P.lists maker.by) f folder in
          let there = part out p v.0 (subst (λ x. choose flow (sources_of image) p ≡ Make x) same e) (inr r.1) v.1 in
          let all = part_listed f p (made out).there.tree v.0 r.1 there in
          subst (λ fs. among (map (in_folder f) fs) p ≡ true)
          (ready_files flow act has_fields image H settings progress P fills rest idle f maker folder (made out) ∙ sym came.listed) all

    -- they are right
    pub right : AllCame L → AreRight S L settings.targets
    right all =
        record {
          gathered = λ c f files tree i k served known v. gathered f files (all f files known) c tree served v;
          members = λ c p f files i e o known v. members f files (all f files known) c p i e o v;
        }

  -- ## Along the chain

  module _ (valid : HasValidRecords image) (differ : SumsDiffer H) (sound : Sound act H image none_eased) (alone : GathersAlone flow) (values : AllHaveValues S settings.targets) where
    -- a plan of the chain is one in whose image all is sound, with the right listings
    pub plan_rested : (plan : Plan) → IsPlan flow image settings progress plan → AllCame plan.lists → Rested flow act has_fields image H settings progress plan
    plan_rested plan is all =
        record {
          sound = sound_none image (is_restored image settings progress plan) (none_restored image settings progress plan idle) act H sound;
          differ = differ;
          planned = planned;
          lists = λ j f files i shut g known. inl (all f files known).listed;
          fields = λ j i shut. fields j (in_from plan.jobs j i) shut;
        }
      where
        planned : Planned flow image settings progress plan
        planned = record { complete = complete; valid = valid; derived = is }

        jobs_are : jobs flow (sources_of image) plan.lists settings.targets ≡ plan.jobs
        jobs_are = (derived flow image plan.lists settings.targets plan.jobs complete is.derived).1

        clear : clashes image [] (flat_map spots (jobs flow (sources_of image) plan.lists settings.targets)) ≡ []
        clear =
            subst (λ js. clashes image [] (flat_map spots js) ≡ []) (sym jobs_are)
            (derived_clear flow image plan.lists settings.targets plan.jobs complete is.derived)

        -- what a job that isn't Open gathers from is a source or listed
        has_listings : (c : Candidate) → In (job flow plan.lists c) plan.jobs → is_open_now image settings progress plan (job flow plan.lists c) ≡ false → HasListings S plan.lists c
        has_listings c i shut f k =
            let w = wanted_comes flow act has_fields image H settings progress plan planned (job flow plan.lists c) f i (in_right f (in_paths (recipe flow plan.lists c)) (gathered_folders flow c) k) in
            go w.0 w.2 (choice_known flow (sources_of image) plan.lists w.0 f w.2.calm)
          where
            hand : is_at_hand image settings progress plan f ≡ true
            hand =
                not_false (is_at_hand image settings progress plan f)
                (any_none (λ d. not (is_at_hand image settings progress plan d)) (awaits plan (job flow plan.lists c)) f (shut_parts image settings progress plan (job flow plan.lists c) shut).0
                (in_left f (gathered_folders flow c) (flat_map (directory_over plan) (in_paths (recipe flow plan.lists c) ++ gathered_folders flow c)) k))

            missing : (is_ready image settings progress plan f && is_none (listing plan.lists f)) ≡ false
            missing = any_none (λ d. is_ready image settings progress plan d && is_none (listing plan.lists d)) (gathered_folders flow c) f (shut_parts image settings progress plan (job flow plan.lists c) shut).1 k

            known : (m : Option (Job × State)) (e : Job × State) (b : Bool) (o : Option (List Path)) → m ≡ Some e → (is_none m || b) ≡ true → (b && is_none o) ≡ false → is_some o ≡ true
            known m e b (Some files) s h g = refl
            known m e false None s h g = absurd (true≢false (sym (sym (ap (λ m. is_none m || false) s) ∙ h)))
            known m e true None s h g = absurd (true≢false g)

            go :
                (n : ℕ) → ReachedHere flow act has_fields image H settings progress plan n f →
                (choose flow (sources_of image) f ≡ Source) ⊎ ((d : Candidate) × (choose flow (sources_of image) f ≡ Make d)) →
                IsTrue (is_source image f) ⊎ IsTrue (is_some (listing plan.lists f))
            go n comes (inl s) = inl (source_chosen flow (sources_of image) f s)
            go n comes (inr (d, e)) =
                inr (known (maker_of plan f) (job flow plan.lists d, state_of image settings progress plan (job flow plan.lists d)) (is_ready image settings progress plan f) (listing plan.lists f)
                (maker_is flow act has_fields image H settings progress plan fills planned n f d comes e) hand missing)

        fields : (j : Job) → In j plan.jobs → is_open_now image settings progress plan j ≡ false → has_fields j ≡ true
        fields j i shut =
            let c = map_in (job flow plan.lists) (derived_with plan.lists) j (subst (In j) (sym jobs_are) i) in
            let here = subst (λ x. In x plan.jobs) c.2 i in
            let good =
            derived_jobs_are_good S plan.lists settings.targets alone values (right plan.lists clear all) c.0 c.1
            (has_listings c.0 here (subst (λ x. is_open_now image settings progress plan x ≡ false) c.2 shut)) in
            ap has_fields c.2 ∙ good.fields

    -- so are the listings of the next one
    pub next_came :
        (plan : Plan) → IsPlan flow image settings progress plan → AllCame plan.lists → AllCame (plan.lists ++ new_listings image settings progress plan)
    next_came plan is all f files known = go (listing_either plan.lists (new_listings image settings progress plan) f files known)
      where
        go : (listing plan.lists f ≡ Some files) ⊎ (listing (new_listings image settings progress plan) f ≡ Some files) → Came (plan.lists ++ new_listings image settings progress plan) f files
        go (inl a) =
            let came = all f files a in
            record {
              listed = came.listed;
              plan = came.plan;
              rest = came.rest;
              more = came.more ++ new_listings image settings progress plan;
              with_more = ap (λ ks. ks ++ new_listings image settings progress plan) came.with_more ∙ append_more came.plan.lists came.more (new_listings image settings progress plan);
              inn = came.inn;
              ready = came.ready;
            }
        go (inr b) =
            let r = mapped (λ (k : Known). k.files) (find (λ (k : Known). bytes_eq k.folder f) (new_listings image settings progress plan)) files b in
            let k = find_in (λ (k : Known). bytes_eq k.folder f) (new_listings image settings progress plan) r.0 r.1 in
            let d = map_in _ _ r.0 k.0 in
            let same : d.0 ≡ f = sym (ap (λ (k : Known). k.folder) d.2) ∙ same_place r.0.folder f k.1 in
            let i = filter_in (λ d. is_ready image settings progress plan d && is_none (listing plan.lists d)) (awaited image settings progress plan) d.0 d.1 in
            record {
              listed = sym r.2 ∙ ap (λ (k : Known). k.files) d.2 ∙ ap (files_listed image) same;
              plan = plan;
              rest = plan_rested plan is all;
              more = new_listings image settings progress plan;
              with_more = refl;
              inn = subst (λ w. In w (awaited image settings progress plan)) same i.0;
              ready = subst (λ w. is_ready image settings progress plan w ≡ true) same (and_left (is_ready image settings progress plan d.0) (is_none (listing plan.lists d.0)) i.1);
            }

    pub none_came : AllCame []
    none_came f files known = absurd (none_some None files refl known)
