-- The chain of plans of an image in which one source has changed, beside a plan of the image before by which all jobs were Clean: what becomes known was known,
-- and a job that isn't Open is a job of that plan.
use Rattle.std.specs.Prelude.{is_none, if◌then◌else◌}
use Rattle.std.proofs.Common.{◌≡◌, ◌⊎◌, Bool, true, false, ◌&&◌, List, [], ◌∷◌, ◌++◌, map, filter, find, flat_map, refl, sym, ap, subst, ◌∙◌, inl, inr, bytes_eq, Option, Some, None, option_map, IsTrue, is_some, true≢false}
use Rattle.smk_base.specs.Path.{is_under}
use Rattle.smk_base.proofs.Places.{place_itself, same_place}
use Rattle.smk_world.specs.Trees.{Each, Path, IsIn, among, folder_over, folders_of, kind_in}
use Rattle.smk_world.specs.World.{in_paths, out_paths}
use Rattle.smk_world.specs.declared.recipe.Kind.TheVariants.{Folder as FolderKind}
use Rattle.smk_world.specs.declared.recipe.Kind.{Kind}
use Rattle.smk_flow.specs.Flows.{Flow}
use Rattle.smk_flow.specs.declared.job.Job.{Job}
use Rattle.smk_store.specs.Images.{Image, file_at, is_source, is_whole}
use Rattle.smk_chain.specs.Derive.{Derived, Listings, derivation, listing, sources_of}
use Rattle.smk_chain.specs.declared.jobs.Known.{Known}
use Rattle.smk_pick.specs.declared.settings.Force.TheVariants.{No}
use Rattle.smk_pick.specs.declared.settings.Settings.{Settings}
use Rattle.smk_trigger.specs.JobStates.{is_clean}
use Rattle.smk_trigger.specs.declared.reason.State.{State}
use Rattle.smk_plan.specs.States.{AreListed, IsPlan, Plan, awaited, awaits, directory_over, files_listed, gathers_from, is_open_now, is_ready, is_to_restore, is_whole_by, maker_of, makes, new_listings, nothing_done, reasons, stands_whole, state_of, test_some}
use Rattle.smk_laws_plan.specs.Current.{IsComplete}
use Rattle.smk_laws_plan.proofs.CurrentApart.{same_trans}
use Rattle.smk_laws_plan.proofs.CurrentChosen.{folders_paths}
use Rattle.smk_laws_plan.proofs.CurrentLists.{In, and_left, and_right, distinct_in, filter_nil, find_in, flat_in, in_distinct, in_either, in_flat, in_left, in_map, in_right, map_nil, or_cases, or_first}
use Rattle.smk_laws_plan.proofs.CurrentMeaning.{contains_from, in_from}
use Rattle.smk_laws_plan.proofs.CurrentPaths.{among_in, in_among}
use Rattle.smk_laws_protocol.proofs.Basics.{each_in}
use Rattle.smk_laws_history.proofs.CurrentLaw.{listing_either}
use Rattle.smk_laws_history.proofs.MoreListings.{keeps_unopened, listing_still}
use Rattle.smk_laws_edit.proofs.AnyPlan.{clean_parts, found_maker, maker_is, new_is, one_maker, over_from, over_parts}
use Rattle.smk_laws_edit.proofs.Grown.{GoesOn, goes_on}
use Rattle.smk_laws_edit.proofs.SameLists.{derivation_is}

-- listings that answer nothing for a directory leave it to those behind
listing_behind : (A B : Listings) (f : Path) → listing A f ≡ None → listing (A ++ B) f ≡ listing B f
listing_behind [] B f h = refl
listing_behind (k ∷ A) B f h = go (bytes_eq k.folder f) h (listing_behind A B f)
  where
    go : (b : Bool) → option_map (λ (k : Known). k.files) (if b then Some k else find (λ (k : Known). bytes_eq k.folder f) A) ≡ None → (listing A f ≡ None → listing (A ++ B) f ≡ listing B f) →
        option_map (λ (k : Known). k.files) (if b then Some k else find (λ (k : Known). bytes_eq k.folder f) (A ++ B)) ≡ listing B f
    go true e again = absurd (some_none k.files e)
      where
        some_none : (files : List Path) → Some files ≡ None → ⊥
        some_none files e = cc
    go false e again = again e

-- ## Beside a plan by which all jobs are Clean

module _ (flow : Flow) (settings : Settings) (i : Image) (before : Plan) (p : Path) where
  -- In another image there is one source of other content; all else is as it was.
  pub record IsEdited (x : Image) : Type 0 where
    pub complete : IsComplete x
    pub sources : sources_of x ≡ sources_of i
    pub derived : derivation flow x before.lists settings.targets ≡ Derived before.jobs
    pub known : (q : Path) → is_source x q ≡ is_source i q
    pub stand : (q : Path) → is_some (file_at x q) ≡ is_some (file_at i q)
    pub others : (q : Path) → bytes_eq q p ≡ false → file_at x q ≡ file_at i q
    pub whole : (k : Job) (o : Path) (kind : Kind) → IsIn before.jobs k → IsIn (out_paths k.recipe) o → is_whole x o kind ≡ is_whole i o kind

  -- By the plan before no job had anything to do.
  pub record WasDone : Type 0 where
    pub complete : IsComplete i
    pub unforced : settings.force ≡ No
    pub is_plan : IsPlan flow i settings nothing_done before
    pub none_new : new_listings i settings nothing_done before ≡ []
    pub listed : AreListed i before.lists
    pub clean : Each (λ (s : State). IsTrue (is_clean s)) before.states

  module _ (done : WasDone) (x : Image) where
    abbrev pub y : Image
    y = record x { kept = i.kept; marked = i.marked; noted = i.noted }

    module _ (edited : IsEdited y) where
      abbrev pub was : Job → State
      was j = state_of i settings nothing_done before j

      pub was_clean : (j : Job) → In j before.jobs → is_clean (was j) ≡ true
      was_clean j h =
          each_in (λ (s : State). IsTrue (is_clean s)) (map was before.jobs) (was j)
          (subst (λ ss. Each (λ (s : State). IsTrue (is_clean s)) ss) done.is_plan.states done.clean) (in_map was before.jobs j h)

      pub calm : (j : Job) → In j before.jobs → (is_open_now i settings nothing_done before j ≡ false) × (reasons i settings nothing_done before j ≡ []) × (is_to_restore i settings nothing_done before j ≡ false)
      calm j h = clean_parts flow i settings before done.complete done.is_plan j (was_clean j h)

      stands_same : (k : Job) (q : Path) → In k before.jobs → makes k q ≡ true → stands_whole y q k ≡ stands_whole i q k
      stands_same k q ik m = go (folder_over k.recipe q) refl
        where
          by : Image → Option Path → Bool
          by image o = is_whole_by image q (kind_in k.recipe q) o

          out : (o : Option Path) → folder_over k.recipe q ≡ o → is_some o ≡ false → In q (out_paths k.recipe)
          out o e none = pick (or_cases (among (out_paths k.recipe) q) (is_some (folder_over k.recipe q)) m)
            where
              pick : (among (out_paths k.recipe) q ≡ true) ⊎ (is_some (folder_over k.recipe q) ≡ true) → In q (out_paths k.recipe)
              pick (inl a) = among_in (out_paths k.recipe) q a
              pick (inr s) = absurd (true≢false (sym s ∙ (ap is_some e ∙ none)))

          go : (o : Option Path) → folder_over k.recipe q ≡ o → stands_whole y q k ≡ stands_whole i q k
          go None e = ap (by y) e ∙ (edited.whole k q (kind_in k.recipe q) ik (out None e refl) ∙ sym (ap (by i) e))
          go (Some d) e =
              let found = find_in (is_under q) (folders_of k.recipe) d e in
              ap (by y) e
              ∙ ((λ n. edited.whole k d FolderKind ik (folders_paths k.recipe d found.0) n && edited.stand q n) ∙ sym (ap (by i) e))

      -- ## A plan of the chain

      -- the listings are those of the plan before
      abbrev pub IsPart : Listings → Type 0
      IsPart L = (f : Path) (files : List Path) → listing L f ≡ Some files → listing before.lists f ≡ Some files

      module _ (now : Plan) (is : IsPlan flow y settings nothing_done now) (part : IsPart now.lists) where
        joined : (f : Path) → listing (now.lists ++ before.lists) f ≡ listing before.lists f
        joined f = go (listing now.lists f) refl
          where
            go : (o : Option (List Path)) → listing now.lists f ≡ o → listing (now.lists ++ before.lists) f ≡ listing before.lists f
            go None e = listing_behind now.lists before.lists f e
            go (Some files) e = listing_still now.lists before.lists f files e ∙ sym (part f files e)

        later : derivation flow y (now.lists ++ before.lists) settings.targets ≡ Derived before.jobs
        later = derivation_is flow (now.lists ++ before.lists) before.lists joined y settings.targets ∙ edited.derived

        pub grown : (j : Job) → In j now.jobs → GoesOn before.jobs j
        grown = goes_on flow y settings nothing_done now before.lists before.jobs edited.complete is later

        abbrev stage : Job → State
        stage j = state_of y settings nothing_done now j

        -- a job that isn't Open is the one that it was
        pub was_there : (j : Job) → In j now.jobs → is_open_now y settings nothing_done now j ≡ false → In j before.jobs
        was_there j h shut =
            in_from before.jobs j (keeps_unopened flow y settings nothing_done now before.lists before.jobs edited.complete is later done.listed j (contains_from now.jobs j h) shut).0

        -- ## What is awaited was awaited

        -- of a job in both plans, what it makes as a directory over a path
        over_before : (j : Job) (q d : Path) → In j now.jobs → In j before.jobs → makes j d ≡ true → In d (directory_over now q) → In d (directory_over before q)
        over_before j q d h was m over =
            let k = over_parts flow y settings now edited.complete is q d over in
            let found = find_in (is_under q) (folders_of k.0.recipe) d k.3 in
            let same = one_maker flow y settings now edited.complete is k.0 j d k.1 h (or_first _ _ (in_among (out_paths k.0.recipe) d (folders_paths k.0.recipe d found.0))) m in
            over_from flow i settings before done.complete done.is_plan q d k.0 (subst (λ z. In z before.jobs) (sym same) was) k.2 k.3

        awaits_before : (j e : Job) (d : Path) → In j now.jobs → In j before.jobs → makes j d ≡ true → In e now.jobs → In d (awaits now e) → (k : Job) × In k before.jobs × In d (awaits before k)
        awaits_before j e d h was m ie w = (g.job, g.is_there, go (in_either d (gathers_from e) (flat_map (directory_over now) (in_paths e.recipe ++ gathers_from e)) w))
          where
            g : GoesOn before.jobs e
            g = grown e ie

            wants : (q : Path) → In q (in_paths e.recipe) ⊎ In q (gathers_from e) → In q (in_paths g.job.recipe ++ gathers_from g.job)
            wants q (inl a) = in_left q (in_paths g.job.recipe) (gathers_from g.job) (g.inputs q a)
            wants q (inr b) = in_right q (in_paths g.job.recipe) (gathers_from g.job) (subst (In q) (sym g.gathers) b)

            go : In d (gathers_from e) ⊎ In d (flat_map (directory_over now) (in_paths e.recipe ++ gathers_from e)) → In d (awaits before g.job)
            go (inl a) = in_left d (gathers_from g.job) (flat_map (directory_over before) (in_paths g.job.recipe ++ gathers_from g.job)) (subst (In d) (sym g.gathers) a)
            go (inr b) =
                let r = flat_in (directory_over now) (in_paths e.recipe ++ gathers_from e) d b in
                in_right d (gathers_from g.job) (flat_map (directory_over before) (in_paths g.job.recipe ++ gathers_from g.job))
                (in_flat (directory_over before) (in_paths g.job.recipe ++ gathers_from g.job) r.0 d
                (wants r.0 (in_either r.0 (in_paths e.recipe) (gathers_from e) r.1)) (over_before j r.0 d h was m r.2))

        abbrev waited : Plan → List Path
        waited plan = flat_map (awaits plan) plan.jobs ++ flat_map (directory_over plan) settings.targets

        pub awaited_before : (j : Job) (d : Path) → In j now.jobs → In j before.jobs → makes j d ≡ true → In d (awaited y settings nothing_done now) → In d (awaited i settings nothing_done before)
        awaited_before j d h was m w = kept (go (in_either d (flat_map (awaits now) now.jobs) (flat_map (directory_over now) settings.targets) (distinct_in bytes_eq (waited now) d w)))
          where
            go : In d (flat_map (awaits now) now.jobs) ⊎ In d (flat_map (directory_over now) settings.targets) → In d (waited before)
            go (inl a) =
                let r = flat_in (awaits now) now.jobs d a in
                let k = awaits_before j r.0 d h was m r.1 r.2 in
                in_left d (flat_map (awaits before) before.jobs) (flat_map (directory_over before) settings.targets) (in_flat (awaits before) before.jobs k.0 d k.1 k.2)
            go (inr b) =
                let r = flat_in (directory_over now) settings.targets d b in
                in_right d (flat_map (awaits before) before.jobs) (flat_map (directory_over before) settings.targets)
                (in_flat (directory_over before) settings.targets r.0 d r.1 (over_before j r.0 d h was m r.2))

            kept : In d (waited before) → In d (awaited i settings nothing_done before)
            kept a =
                let r = in_distinct bytes_eq place_itself same_trans (waited before) d a in
                subst (λ z. In z (awaited i settings nothing_done before)) (same_place r.0 d r.2) r.1

        -- ## What becomes known was known

        ready_parts : (d : Path) → is_ready y settings nothing_done now d ≡ true → (j : Job) × In j now.jobs × In j before.jobs × (makes j d ≡ true) × (is_ready i settings nothing_done before d ≡ true)
        ready_parts d ready = go (maker_of now d) refl ready
          where
            go : (m : Option (Job × State)) → maker_of now d ≡ m → test_some (λ (e : Job × State). is_clean e.1 && stands_whole y d e.0) m ≡ true →
                (j : Job) × In j now.jobs × In j before.jobs × (makes j d ≡ true) × (is_ready i settings nothing_done before d ≡ true)
            go None e h = absurd (true≢false (sym h))
            go (Some (j, s)) e h =
                let f = found_maker flow y settings now edited.complete is d (j, s) e in
                let clean = subst (λ z. is_clean z ≡ true) f.1 (and_left (is_clean s) (stands_whole y d j) h) in
                let was = was_there j f.0 (clean_parts flow y settings now edited.complete is j clean).0 in (
                  j,
                  f.0,
                  was,
                  f.2,
                  ap (test_some (λ (e : Job × State). is_clean e.1 && stands_whole i d e.0)) (maker_is flow i settings before done.complete done.is_plan j d was f.2)
                      ∙ ((λ n. was_clean j was n && sym (stands_same j d was f.2) n) ∙ and_right (is_clean s) (stands_whole y d j) h),
                )

        pub part_on : IsPart (now.lists ++ new_listings y settings nothing_done now)
        part_on f files h = go (listing_either now.lists (new_listings y settings nothing_done now) f files h)
          where
            known : (o : Option (List Path)) → listing before.lists f ≡ o → files ≡ files_listed i f → is_none o ≡ false → listing before.lists f ≡ Some files
            known None e same some = absurd (true≢false some)
            known (Some there) e same some = e ∙ ap Some (done.listed f there e ∙ sym same)

            go : (listing now.lists f ≡ Some files) ⊎ (listing (new_listings y settings nothing_done now) f ≡ Some files) → listing before.lists f ≡ Some files
            go (inl a) = part f files a
            go (inr b) =
                let new = new_is flow y settings now edited.complete is f files b in
                let r = ready_parts f new.1 in
                let none =
                filter_nil (λ d. is_ready i settings nothing_done before d && is_none (listing before.lists d)) (awaited i settings nothing_done before) f
                (map_nil _ (filter (λ d. is_ready i settings nothing_done before d && is_none (listing before.lists d)) (awaited i settings nothing_done before)) done.none_new)
                (awaited_before r.0 f r.1 r.2 r.3 new.0) in
                known (listing before.lists f) refl new.2 (sym (ap (λ b. b && is_none (listing before.lists f)) r.4) ∙ none)
