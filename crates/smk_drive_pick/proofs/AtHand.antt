-- What is told to be missing isn't at hand, and a job whose inputs and directories are at hand has at hand all that it awaits.
use Rattle.std.proofs.Common.{◌≡◌, ◌⊎◌, ℕ, suc, length, Bool, true, false, not, cond, ◌&&◌, ◌||◌, List, [], ◌∷◌, ◌++◌, map, flat_map, find, refl, sym, ap}
use Rattle.std.proofs.Common.{subst, inl, inr, ◌∙◌, Option, Some, None, option_map, is_some, is_none}
use Rattle.std.specs.Prelude.{slice_index_or}
use Rattle.std.specs.Cmp.{both_ways}
use Rattle.std.specs.List.{list_all, list_any, slice_get, AllZip}
use Rattle.std.specs.Option.{option_and_then}
use Rattle.std.proofs.lemmas.List.Folds.{list_any-append}
use Rattle.std.proofs.lemmas.Option.{get_or_from_slice_get}
use Rattle.smk_base.specs.Path.{is_under}
use Rattle.smk_base.proofs.Places.{same_place}
use Rattle.smk_base.proofs.Under.{never_under_itself}
use Rattle.smk_world.specs.declared.recipe.Kind.TheVariants.{Plain, Folder}
use Rattle.smk_world.specs.World.{in_paths, out_paths}
use Rattle.smk_world.specs.Trees.{Path, among, folder_over, folders_of, kind_in}
use Rattle.smk_flow.specs.declared.job.Job.{Job}
use Rattle.smk_store.specs.Images.{Image, is_whole, is_file}
use Rattle.smk_chain.specs.declared.jobs.Jobs.{Jobs}
use Rattle.smk_chain.specs.declared.jobs.Maker.{Maker}
use Rattle.smk_trigger.specs.declared.reason.State.{State}
use Rattle.smk_trigger.specs.JobStates.{is_clean}
use Rattle.smk_pick.specs.declared.settings.Settings.{Settings}
use Rattle.smk_plan.specs.States.{Plan, Progress, job_path, makes, gathers_from, is_whole_by, stands_whole, test_some, none_or_one, maker_of, directory_over, awaits}
use Rattle.smk_plan.specs.States.{is_at_hand}
use Rattle.smk_plan.specs.Sights.{job_at, is_whole_made}
use Rattle.smk_plan_facts.specs.Facts.{IsMade}
use Rattle.smk_plan_states.specs.declared.lines.Gathered.{Gathered}
use Rattle.smk_plan_states.specs.declared.lines.Origin.{Origin}
use Rattle.smk_plan_states.specs.Lines.{gathered_of, line_of, link_to, origin_of, tells_of}
use Rattle.smk_plan_states.specs.Served.{IsToldOf, ReadEarlier, IsBelow}
use Rattle.smk_plan_states.specs.Judged.{with_states}
use Rattle.smk_plan_states.proofs.Tests.{any_map}
use Rattle.smk_drive_pick.specs.Told.{lacks_some}
use Rattle.smk_drive_pick.proofs.ByRank.{state_lacking as is_lacking, state_missing as is_missing}
use Rattle.smk_laws_plan.proofs.CurrentLists.{In, none_some, some_inj, clash_of, or_first, find_in, in_left, in_right, in_either, flat_in, any_in}
use Rattle.smk_laws_plan.proofs.CurrentLists.{any_from}
use Rattle.smk_laws_plan.proofs.CurrentPaths.{in_among}
use Rattle.smk_laws_plan.proofs.CurrentApart.{JobsApart, apart_same, own_apart, Apart}
use Rattle.smk_laws_plan.proofs.CurrentChosen.{folders_paths}
use Rattle.smk_laws_plan.proofs.PlanStates.{any_same}
use Rattle.smk_drive_pick.proofs.Links.{any_inputs, map_at, place_found, zip_at}
use Rattle.smk_drive_pick.proofs.Lists.{all_or_some}
use Rattle.smk_drive_pick.proofs.Owners.{at_number, each_in, none_found, none_there}

-- ## What a job reads is told of

pub reads_told :
    (J : Jobs) (n : ℕ) (js : List Job) (j : Job) (q : Path) → ReadEarlier J n js → In j js → In q (in_paths j.recipe ++ gathers_from j) → IsToldOf J q
reads_told J n [] j q h i k = absurd i
reads_told J n (x ∷ js) j q h (inl e) k =
    (each_in (λ q. (t : IsToldOf J q) × IsBelow n t.number) (in_paths x.recipe ++ gathers_from x) q h.0
    (subst (λ (y : Job). In q (in_paths y.recipe ++ gathers_from y)) e k)).0
reads_told J n (x ∷ js) j q h (inr i) k = reads_told J (suc n) js j q h.1 i k

-- the maker that tells of such a path has the right job
maker_made : (J : Jobs) (q : Path) (h : IsToldOf J q) (m : Maker) → m.path ≡ q → m.job ≡ h.number → IsMade J.jobs m
maker_made J q h m path job n j numbered at =
    subst (λ p. makes j p ≡ true) (sym path)
    (find_in (λ j. makes j q) J.jobs j (h.right ∙ ap (option_and_then (job_at J.jobs)) (sym job ∙ numbered) ∙ at)).1

-- ## Directories

-- a directory output is whole as one
directory_whole :
    (j : Job) (image : Image) (q f : Path) → Apart (out_paths j.recipe) → folder_over j.recipe q ≡ Some f → stands_whole image f j ≡ is_whole image f Folder
directory_whole j image q f apart e = go (folder_over j.recipe f) refl (among (folders_of j.recipe) f) (in_among (folders_of j.recipe) f here)
  where
    here : In f (folders_of j.recipe)
    here = (find_in (is_under q) (folders_of j.recipe) f e).0

    never : (g : Path) → folder_over j.recipe f ≡ Some g → ⊥
    never g k =
        let r = find_in (is_under f) (folders_of j.recipe) g k in
        let same = apart_same (out_paths j.recipe) f g apart (folders_paths j.recipe f here) (folders_paths j.recipe g r.0) (inr (inl r.1)) in
        clash_of (is_under f f) (subst (λ w. is_under f w ≡ true) (sym same) r.1) (never_under_itself f)

    go : (o : Option Path) → folder_over j.recipe f ≡ o → (b : Bool) → b ≡ true → is_whole_by image f (cond b Folder Plain) o ≡ is_whole image f Folder
    go (Some g) k b h = absurd (never g k)
    go None k b h = ap (λ c. is_whole image f (cond c Folder Plain)) h

-- where a directory isn't there whole, no member of it is
part_away : (c w f : Bool) → not (c && w) ≡ true → not (c && (w && f)) ≡ true
part_away true true f h = absurd (clash_of false h refl)
part_away true false f h = refl
part_away false w f h = refl

module _
    (image : Image) (settings : Settings) (progress : Progress) (J : Jobs) (ss : List State) (each : length ss ≡ length J.jobs) (apart : JobsApart J.jobs) where
  abbrev P : Plan
  P = with_states J ss

  abbrev by : Path → Option Job
  by q = find (λ j. makes j q) J.jobs

  abbrev hand : Path → Bool
  hand q = is_at_hand image settings progress P q

  abbrev away : Path → Bool
  away q = not (hand q)

  abbrev whole : Maker → Bool
  whole = is_whole_made image J.jobs

  abbrev ready_of : Path → Option (Job × State) → Bool
  ready_of q o = is_none o || test_some (λ (e : Job × State). is_clean e.1 && stands_whole image q e.0) o

  abbrev pair : Job → State → Job × State
  pair j s = (j, s)

  -- the job of the number, whose state is known, makes it
  made_at : (q : Path) (n : ℕ) (j : Job) → job_at J.jobs n ≡ Some j → makes j q ≡ true → maker_of P q ≡ option_map (pair j) (slice_get ss n)
  made_at q n j e m = at_number J.jobs ss n j q apart e m (pair j) (λ s. refl)

  -- ## One path

  lacking_is : (q : Path) (n : Option ℕ) (w : Bool) → by q ≡ option_and_then (job_at J.jobs) n
      → ((j : Job) → option_and_then (job_at J.jobs) n ≡ Some j → w ≡ stands_whole image q j)
      → is_lacking ss n w ≡ away q
  lacking_is q None w e h = sym (ap (λ o. not (ready_of q o)) (none_found J.jobs ss q each e))
  lacking_is q (Some n) w e h = go (job_at J.jobs n) refl
    where
      states :
          (j : Job) → job_at J.jobs n ≡ Some j → makes j q ≡ true → (o : Option State) → slice_get ss n ≡ o →
          test_some (λ (s : State). not (is_clean s && w)) o ≡ not (ready_of q (option_map (pair j) o))
      states j f m None g = refl
      states j f m (Some s) g = ap (λ x. not (is_clean s && x)) (h j f)

      go : (o : Option Job) → job_at J.jobs n ≡ o → test_some (λ (s : State). not (is_clean s && w)) (slice_get ss n) ≡ away q
      go None f =
          ap (test_some (λ (s : State). not (is_clean s && w))) (none_there J.jobs ss n each f)
          ∙ sym (ap (λ o. not (ready_of q o)) (none_found J.jobs ss q each (e ∙ f)))
      go (Some j) f =
          let m = (find_in (λ j. makes j q) J.jobs j (e ∙ f)).1 in
          states j f m (slice_get ss n) refl ∙ sym (ap (λ o. not (ready_of q o)) (made_at q n j f m))

  -- by its link, where for each maker it is told what makes its path and whether that is whole
  module _
      (origins : List Origin) (wholes : List Bool) (are : origins ≡ map (origin_of J.jobs) J.makers)
      (flags : AllZip (λ m f. IsMade J.jobs m → f ≡ whole m) J.makers wholes) where
    pub missing_is : (q : Path) → IsToldOf J q → is_missing ss origins wholes (link_to J.makers q) ≡ away q
    missing_is q h = go (find (tells_of q) J.makers) refl h.told
      where
        go :
            (o : Option Maker) → find (tells_of q) J.makers ≡ o → option_map (λ (m : Maker). m.job) o ≡ Some h.number →
            is_missing ss origins wholes (link_to J.makers q) ≡ away q
        go None e b = absurd (none_some None h.number refl b)
        go (Some m) e b =
            let path : m.path ≡ q = same_place m.path q (find_in (tells_of q) J.makers m e).1 in
            let job : m.job ≡ h.number = some_inj m.job h.number b in
            let place = place_found (tells_of q) J.makers m e in
            let flag = zip_at (λ (m : Maker) (f : Bool). IsMade J.jobs m → f ≡ whole m) J.makers wholes flags place.0 m place.2 in
            let origin : slice_get origins place.0 ≡ Some (origin_of J.jobs m) =
            ap (λ os. slice_get os place.0) are ∙ map_at (origin_of J.jobs) J.makers place.0 m place.2 in
            ap (is_missing ss origins wholes) place.1
            ∙ ap (test_some (λ (o : Origin). is_lacking ss o.job (slice_index_or wholes place.0 false))) origin
            ∙ ap (is_lacking ss m.job) (get_or_from_slice_get wholes place.0 flag.0 false flag.1 ∙ flag.2 (maker_made J q h m path job))
            ∙ lacking_is q m.job (whole m) (h.right ∙ ap (option_and_then (job_at J.jobs)) (sym job))
            (λ j f. ap (test_some (stands_whole image m.path)) f ∙ ap (λ p. stands_whole image p j) path)

  -- ## The directories over a path

  -- a directory over a path that isn't at hand: the path isn't either
  over_away : (q d : Path) → IsToldOf J q → In d (directory_over P q) → away d ≡ true → away q ≡ true
  over_away q d h i a = go (by q) refl h.number (sym h.right)
    where
      states :
          (j : Job) (o : Option State) → maker_of P q ≡ option_map (pair j) o → maker_of P d ≡ option_map (pair j) o →
          stands_whole image d j ≡ is_whole image d Folder → folder_over j.recipe q ≡ Some d → away q ≡ true
      states j None e f w over = absurd (clash_of (not (ready_of d None)) (sym (ap (λ o. not (ready_of d o)) f) ∙ a) refl)
      states j (Some s) e f w over =
          ap (λ o. not (ready_of q o)) e
          ∙ ap (λ o. not (is_clean s && is_whole_by image q (kind_in j.recipe q) o)) over
          ∙ part_away (is_clean s) (is_whole image d Folder) (is_file image q)
          (ap (λ b. not (is_clean s && b)) (sym w) ∙ sym (ap (λ o. not (ready_of d o)) f) ∙ a)

      made : (j : Job) (n : ℕ) → by q ≡ Some j → job_at J.jobs n ≡ Some j → folder_over j.recipe q ≡ Some d → away q ≡ true
      made j n e f over =
          let r = find_in (λ j. makes j q) J.jobs j e in
          let own : makes j d ≡ true =
          or_first (among (out_paths j.recipe) d) (is_some (folder_over j.recipe d))
          (in_among (out_paths j.recipe) d (folders_paths j.recipe d (find_in (is_under q) (folders_of j.recipe) d over).0)) in
          states j (slice_get ss n) (made_at q n j f r.1) (made_at d n j f own) (directory_whole j image q d (own_apart J.jobs j apart r.0) over) over

      folder : (j : Job) (o : Option State) → maker_of P q ≡ option_map (pair j) o → In d (directory_over P q) → folder_over j.recipe q ≡ Some d
      folder j o e k =
          in_one (folder_over j.recipe q)
          (from o (subst (λ m. In d (flat_map (λ (e : Job × State). none_or_one (folder_over e.0.recipe q)) (none_or_one m))) e k))
        where
          from :
              (o : Option State) → In d (flat_map (λ (e : Job × State). none_or_one (folder_over e.0.recipe q)) (none_or_one (option_map (pair j) o))) →
              In d (none_or_one (folder_over j.recipe q))
          from None k = absurd k
          from (Some s) k = pick (in_either d (none_or_one (folder_over j.recipe q)) [] k)
            where
              pick : In d (none_or_one (folder_over j.recipe q)) ⊎ In d [] → In d (none_or_one (folder_over j.recipe q))
              pick (inl x) = x
              pick (inr x) = absurd x

          in_one : (p : Option Path) → In d (none_or_one p) → p ≡ Some d
          in_one None k = absurd k
          in_one (Some x) (inl e) = ap Some (sym e)
          in_one (Some x) (inr k) = absurd k

      go : (o : Option Job) → by q ≡ o → (n : Option ℕ) → option_and_then (job_at J.jobs) n ≡ by q → away q ≡ true
      go None e n f =
          absurd (subst (λ m. In d (flat_map (λ (e : Job × State). none_or_one (folder_over e.0.recipe q)) (none_or_one m))) (none_found J.jobs ss q each e) i)
      go (Some j) e None f = absurd (none_some None j refl (f ∙ e))
      go (Some j) e (Some n) f =
          let m = (find_in (λ j. makes j q) J.jobs j e).1 in
          made j n e (f ∙ e) (folder j (slice_get ss n) (made_at q n j (f ∙ e) m) i)

  -- ## One job

  module _ (reads : ReadEarlier J 0 J.jobs) (j : Job) (here : In j J.jobs) where
    abbrev wants : List Path
    wants = in_paths j.recipe ++ gathers_from j

    abbrev overs : List Path
    overs = flat_map (directory_over P) wants

    some_away : list_any away (in_paths j.recipe ++ awaits P j) ≡ list_any away wants
    some_away = both_ways (list_any away (in_paths j.recipe ++ awaits P j)) (list_any away wants) forth back
      where
        over : (d : Path) → In d overs → away d ≡ true → list_any away wants ≡ true
        over d i a =
            let r = flat_in (directory_over P) wants d i in
            any_from away wants r.0 r.1 (over_away r.0 d (reads_told J 0 J.jobs j r.0 reads here r.1) r.2 a)

        later : (d : Path) → In d (gathers_from j) ⊎ In d overs → away d ≡ true → list_any away wants ≡ true
        later d (inl i) a = any_from away wants d (in_right d (in_paths j.recipe) (gathers_from j) i) a
        later d (inr i) a = over d i a

        first : (d : Path) → In d (in_paths j.recipe) ⊎ In d (awaits P j) → away d ≡ true → list_any away wants ≡ true
        first d (inl i) a = any_from away wants d (in_left d (in_paths j.recipe) (gathers_from j) i) a
        first d (inr i) a = later d (in_either d (gathers_from j) overs i) a

        forth : list_any away (in_paths j.recipe ++ awaits P j) ≡ true → list_any away wants ≡ true
        forth h = let r = any_in away (in_paths j.recipe ++ awaits P j) h in first r.0 (in_either r.0 (in_paths j.recipe) (awaits P j) r.1) r.2

        widen : (d : Path) → In d (in_paths j.recipe) ⊎ In d (gathers_from j) → In d (in_paths j.recipe ++ awaits P j)
        widen d (inl i) = in_left d (in_paths j.recipe) (awaits P j) i
        widen d (inr i) = in_right d (in_paths j.recipe) (awaits P j) (in_left d (gathers_from j) overs i)

        back : list_any away wants ≡ true → list_any away (in_paths j.recipe ++ awaits P j) ≡ true
        back h =
            let r = any_in away wants h in
            any_from away (in_paths j.recipe ++ awaits P j) r.0 (widen r.0 (in_either r.0 (in_paths j.recipe) (gathers_from j) r.1)) r.2

    lacks_flat : (missing : Option ℕ → Bool) (asked : List Path) → lacks_some missing (line_of J asked j) ≡ list_any (λ q. missing (link_to J.makers q)) wants
    lacks_flat missing asked =
        (λ i. any_inputs J (job_path j) missing [] (in_paths j.recipe) i
        || any_map (λ (g : Gathered). missing g.link) (gathered_of J) (gathers_from j) i)
        ∙ sym (list_any-append (λ q. missing (link_to J.makers q)) (in_paths j.recipe) (gathers_from j))

    -- a job lacks nothing where all that it needs is at hand
    pub lacks_is :
        (origins : List Origin) (wholes : List Bool) → origins ≡ map (origin_of J.jobs) J.makers →
        AllZip (λ m f. IsMade J.jobs m → f ≡ whole m) J.makers wholes → (asked : List Path) →
        not (lacks_some (is_missing ss origins wholes) (line_of J asked j)) ≡ list_all hand (in_paths j.recipe ++ awaits P j)
    lacks_is origins wholes are flags asked =
        ap not
        (lacks_flat (is_missing ss origins wholes) asked
        ∙ any_same (λ q. is_missing ss origins wholes (link_to J.makers q)) away wants
        (λ q i. missing_is origins wholes are flags q (reads_told J 0 J.jobs j q reads here i))
        ∙ sym some_away)
        ∙ sym (all_or_some hand (in_paths j.recipe ++ awaits P j))
