-- A plan by which all jobs are Clean is one too without the listings of directories that it doesn't await, or that aren't at hand.
use Rattle.std.specs.List.{list_any}
use Rattle.std.specs.Prelude.{is_none, if◌then◌else◌}
use Rattle.std.proofs.Common.{◌≡◌, ℕ, zero, suc, Bool, true, false, not, cond, ◌&&◌, ◌||◌, List, [], ◌∷◌, ◌++◌, map, filter, find, flat_map, refl, sym, ap, subst, inl, inr, ◌∙◌, bytes_eq, Option, Some, None, option_map, IsTrue}
use Rattle.std.proofs.lemmas.Option.{none-some}
use Rattle.smk_base.proofs.Places.{same_place}
use Rattle.smk_world.specs.World.{in_paths}
use Rattle.smk_world.specs.Trees.{Each, IsIn, Path, among}
use Rattle.smk_flow.specs.Flows.{Candidate, Flow, gathered_folders}
use Rattle.smk_flow.specs.declared.job.Job.{Job}
use Rattle.smk_choose.specs.Choose.{Sources, choose, maker}
use Rattle.smk_store.specs.Images.{Image}
use Rattle.smk_chain.specs.declared.jobs.Known.{Known}
use Rattle.smk_chain.specs.Derive.{Derived, Listings, chosen, derivation, distinct, job, jobs, listing, or_none, same_candidate, sources_of, walk, wants}
use Rattle.smk_trigger.specs.declared.reason.State.{State}
use Rattle.smk_trigger.specs.declared.reason.State.TheVariants.{Open}
use Rattle.smk_trigger.specs.JobStates.{is_clean, is_open}
use Rattle.smk_pick.specs.declared.settings.Settings.{Settings}
use Rattle.smk_plan.specs.States.{AreListed, IsPlan, Plan, awaited, awaits, by_reasons, directory_over, files_listed, gathers_from, is_at_hand, is_read_now, is_ready, is_to_restore, kept_state, made_by, maker_of, new_listings, nothing_done, reasons, state_of, while_running}
use Rattle.smk_laws_plan.specs.Current.{IsComplete}
use Rattle.smk_laws_plan.proofs.CurrentLists.{In, and_both, and_left, and_right, any_none, distinct_in, in_flat, in_left, in_right, not_false, or_left, or_second}
use Rattle.smk_laws_plan.proofs.CurrentPaths.{among_in, in_among}
use Rattle.smk_laws_plan.proofs.CurrentRecipes.{flat_same, job_same, map_same, wants_same}
use Rattle.smk_laws_plan.proofs.CurrentWalked.{walked_job}
use Rattle.smk_laws_plan.proofs.PlanOne.{derived}
use Rattle.smk_laws_plan.proofs.PlanStates.{any_same, filter_same}
use Rattle.smk_laws_edit.proofs.AnyPlan.{clean_parts}
use Rattle.smk_laws_edit.proofs.Clear.{derived_part}
use Rattle.smk_laws_edit.proofs.Fewer.{IsPartOf, in_once}

-- ## Listings of some directories alone

-- the listings of directories that pass
abbrev pub only : (Path → Bool) → Listings → Listings
only test L = filter (λ (k : Known). test k.folder) L

either_way : (b : Bool) (o : Option (List Path)) → o ≡ None → o ≡ cond b o None
either_way true o h = refl
either_way false o h = h

pub only_listing : (test : Path → Bool) (L : Listings) (f : Path) → listing (only test L) f ≡ cond (test f) (listing L f) None
only_listing test [] f = either_way (test f) None refl
only_listing test (k ∷ L) f = go (bytes_eq k.folder f) refl (test k.folder) refl (only_listing test L f)
  where
    files : Option Known → Option (List Path)
    files o = option_map (λ (k : Known). k.files) o

    here : (b : Bool) → test f ≡ b → Some k.files ≡ cond b (Some k.files) None → Some k.files ≡ cond (test f) (Some k.files) None
    here b e h = subst (λ x. Some k.files ≡ cond x (Some k.files) None) (sym e) h

    go :
        (b : Bool) → bytes_eq k.folder f ≡ b → (t : Bool) → test k.folder ≡ t → listing (only test L) f ≡ cond (test f) (listing L f) None →
        option_map (λ (k : Known). k.files) (find (λ (k : Known). bytes_eq k.folder f) (cond t (k ∷ only test L) (only test L)))
        ≡ cond (test f) (option_map (λ (k : Known). k.files) (cond b (Some k) (find (λ (k : Known). bytes_eq k.folder f) L))) None
    go true e true s again =
        ap (λ x. option_map (λ (k : Known). k.files) (cond x (Some k) (find (λ (k : Known). bytes_eq k.folder f) (only test L)))) e
        ∙ here true (ap test (sym (same_place k.folder f e)) ∙ s) refl
    go true e false s again =
        let not_f : test f ≡ false = ap test (sym (same_place k.folder f e)) ∙ s in
        again ∙ (ap (λ x. cond x (listing L f) None) not_f ∙ sym (ap (λ x. cond x (Some k.files) None) not_f))
    go false e true s again =
        ap (λ x. option_map (λ (k : Known). k.files) (cond x (Some k) (find (λ (k : Known). bytes_eq k.folder f) (only test L)))) e ∙ again
    go false e false s again = again

only_parts :
    (test : Path → Bool) (L : Listings) (f : Path) (files : List Path) → listing (only test L) f ≡ Some files →
    (test f ≡ true) × (listing L f ≡ Some files)
only_parts test L f files h = go (test f) refl (sym (only_listing test L f) ∙ h)
  where
    go : (b : Bool) → test f ≡ b → cond b (listing L f) None ≡ Some files → (test f ≡ true) × (listing L f ≡ Some files)
    go true e k = (e, k)
    go false e k = absurd (none-some files k)

only_part : (test : Path → Bool) (L : Listings) → IsPartOf (only test L) L
only_part test L f files h = (only_parts test L f files h).1

-- ## Jobs that see the same listings

module _ (flow : Flow) (L K : Listings) (srcs : Sources) where
  -- what these jobs gather from is listed alike
  abbrev Agree : List Candidate → Type 0
  Agree cs = (c : Candidate) → In c cs → (f : Path) → In f (gathered_folders flow c) → or_none (listing L f) ≡ or_none (listing K f)

  abbrev walk_by : Listings → ℕ → Option Candidate → List Candidate
  walk_by M n m = elim m as (λ _. List Candidate) [ None ↦ [] | Some c ↦ flat_map (walk flow srcs M n) (wants flow M c) ++ c ∷ [] ]

  walk_same : (n : ℕ) (p : Path) → Agree (walk flow srcs L n p) → walk flow srcs L n p ≡ walk flow srcs K n p
  walk_same zero p agree = refl
  walk_same (suc n) p agree = go (maker (choose flow srcs p)) agree (λ q a. walk_same n q a)
    where
      own : (c : Candidate) → In c (flat_map (walk flow srcs L n) (wants flow L c) ++ c ∷ [])
      own c = in_right c (flat_map (walk flow srcs L n) (wants flow L c)) (c ∷ []) (inl refl)

      go :
          (m : Option Candidate) → Agree (walk_by L n m) →
          ((q : Path) → Agree (walk flow srcs L n q) → walk flow srcs L n q ≡ walk flow srcs K n q) → walk_by L n m ≡ walk_by K n m
      go None a again = refl
      go (Some c) a again =
          let below =
          flat_same (walk flow srcs L n) (walk flow srcs K n) (wants flow L c)
          (λ w i.
          again w
          (λ d id f jf.
          a d (in_left d (flat_map (walk flow srcs L n) (wants flow L c)) (c ∷ []) (in_flat (walk flow srcs L n) (wants flow L c) w d i id)) f jf)) in
          let wanted = wants_same flow c L K (a c (own c)) in
          let whole : flat_map (walk flow srcs L n) (wants flow L c) ≡ flat_map (walk flow srcs K n) (wants flow K c) =
          below ∙ ap (flat_map (walk flow srcs K n)) wanted in
          λ i. whole i ++ c ∷ []

  pub jobs_same : (targets : List Path) → Agree (flat_map (walk flow srcs L 200) targets) → jobs flow srcs L targets ≡ jobs flow srcs K targets
  jobs_same targets agree =
      let walked =
      flat_same (walk flow srcs L 200) (walk flow srcs K 200) targets
      (λ p i. walk_same 200 p (λ c ic f jf. agree c (in_flat (walk flow srcs L 200) targets p c i ic) f jf)) in
      map_same (job flow L) (job flow K) (chosen flow srcs L targets)
      (λ c i. job_same flow c L K (agree c (distinct_in same_candidate (flat_map (walk flow srcs L 200) targets) c i)))
      ∙ (λ n. map (job flow K) (distinct same_candidate (walked n)))

-- ## The plan without other listings

each_mapped : {A B : Type 0} (P : B → Type 0) (f : A → B) (xs : List A) → Each P (map f xs) → (x : A) → In x xs → P (f x)
each_mapped P f [] h x i = absurd i
each_mapped P f (y ∷ xs) h x (inl e) = subst (λ z. P (f z)) (sym e) h.0
each_mapped P f (y ∷ xs) h x (inr i) = each_mapped P f xs h.1 x i

module _
    (flow : Flow) (image : Image) (settings : Settings) (plan : Plan) (complete : IsComplete image) (is : IsPlan flow image settings nothing_done plan)
    (clean : Each (λ (s : State). IsTrue (is_clean s)) plan.states) where
  abbrev pub waited : List Path
  waited = awaited image settings nothing_done plan

  abbrev pub hand : Path → Bool
  hand d = is_at_hand image settings nothing_done plan d

  abbrev pub ready : Path → Bool
  ready d = is_ready image settings nothing_done plan d

  abbrev pub test : Path → Bool
  test f = among waited f && hand f

  abbrev pub kept : Listings
  kept = only test plan.lists

  abbrev pub trimmed : Plan
  trimmed = record plan { lists = kept }

  abbrev walked : List Candidate
  walked = flat_map (walk flow (sources_of image) plan.lists 200) settings.targets

  still :
      (f : Path) → In f waited → hand f ≡ true →
      listing plan.lists f ≡ listing kept f
  still f i held =
      let passes : test f ≡ true = and_both (among waited f) (hand f) (in_among waited f i) held in
      sym (only_listing test plan.lists f ∙ ap (λ b. cond b (listing plan.lists f) None) passes)

  -- no job is Open
  gathered_hand : (j : Job) (f : Path) → In j plan.jobs → In f (gathers_from j) → hand f ≡ true
  gathered_hand j f ij jf =
      let state =
      each_mapped (λ (s : State). IsTrue (is_clean s)) (state_of image settings nothing_done plan) plan.jobs
      (subst (Each (λ (s : State). IsTrue (is_clean s))) is.states clean) j ij in
      let shut = (clean_parts flow image settings plan complete is j state).0 in
      not_false (hand f)
      (any_none (λ d. not (hand d)) (awaits plan j) f (or_left _ _ shut)
      (in_left f (gathers_from j) (flat_map (directory_over plan) (in_paths j.recipe ++ gathers_from j)) jf))

  gathered_awaited : (j : Job) (f : Path) → In j plan.jobs → In f (gathers_from j) → In f waited
  gathered_awaited j f ij jf =
      in_once (flat_map (awaits plan) plan.jobs ++ flat_map (directory_over plan) settings.targets) f
      (in_left f (flat_map (awaits plan) plan.jobs) (flat_map (directory_over plan) settings.targets)
      (in_flat (awaits plan) plan.jobs j f ij (in_left f (gathers_from j) (flat_map (directory_over plan) (in_paths j.recipe ++ gathers_from j)) jf)))

  jobs_kept : jobs flow (sources_of image) kept settings.targets ≡ plan.jobs
  jobs_kept =
      let d = derived flow image plan.lists settings.targets plan.jobs complete is.derived in
      sym
      (jobs_same flow plan.lists kept (sources_of image) settings.targets
      (λ c ic f jf.
      let ij = subst (In (job flow plan.lists c)) d.1 (walked_job flow (sources_of image) plan.lists settings.targets 200 c ic) in
      ap or_none (still f (gathered_awaited (job flow plan.lists c) f ij jf) (gathered_hand (job flow plan.lists c) f ij jf))))
      ∙ d.1

  pub trimmed_derived : derivation flow image kept settings.targets ≡ Derived plan.jobs
  trimmed_derived = derived_part flow kept plan.lists (only_part test plan.lists) image settings.targets plan.jobs is.derived ∙ ap Derived jobs_kept

  -- of the listings a state sees those of directories from which the job gathers
  state_same : (j : Job) → In j plan.jobs → state_of image settings nothing_done plan j ≡ state_of image settings nothing_done trimmed j
  state_same j i =
      let seen =
      any_same (λ d. ready d && is_none (listing plan.lists d)) (λ d. ready d && is_none (listing kept d))
      (gathers_from j) (λ d jd. ap (λ o. ready d && is_none o) (still d (gathered_awaited j d i jd) (gathered_hand j d i jd))) in
      λ n.
      while_running (kept_state image settings nothing_done plan j)
      (if list_any (λ d. not (hand d)) (awaits plan j) || (seen n || list_any (made_by plan is_open) (in_paths j.recipe)) then Open
      else by_reasons (reasons image settings nothing_done plan j)
      (is_to_restore image settings nothing_done plan j && not (is_read_now image settings nothing_done plan j)))

  pub trimmed_is : IsPlan flow image settings nothing_done trimmed
  trimmed_is =
      record {
        derived = trimmed_derived;
        states = is.states
            ∙ map_same (state_of image settings nothing_done plan) (state_of image settings nothing_done trimmed) plan.jobs state_same;
      }

  pub trimmed_none : new_listings image settings nothing_done plan ≡ [] → new_listings image settings nothing_done trimmed ≡ []
  trimmed_none none =
      let unlisted : Listings → Path → Bool = λ L d. ready d && is_none (listing L d) in
      ap (map (λ d. let known : Known = record { folder = d; files = files_listed image d } in known))
      (filter_same (unlisted kept) (unlisted plan.lists) waited
      (λ d i. unlisted_same d i (ready d) refl))
      ∙ none
    where
      -- what isn't at hand isn't ready
      unlisted_same :
          (d : Path) → In d waited → (b : Bool) → ready d ≡ b →
          (ready d && is_none (listing kept d)) ≡ (ready d && is_none (listing plan.lists d))
      unlisted_same d i true e =
          ap (λ o. ready d && is_none o) (sym (still d i (or_second (is_none (maker_of plan d)) (ready d) e)))
      unlisted_same d i false e = ap (λ b. b && is_none (listing kept d)) e ∙ sym (ap (λ b. b && is_none (listing plan.lists d)) e)

  pub trimmed_listed :
      ((d : Path) (files : List Path) →
      IsIn waited d →
      IsTrue (hand d) → listing plan.lists d ≡ Some files → files ≡ files_listed image d) →
      AreListed image kept
  trimmed_listed listed f files h =
      let p = only_parts test plan.lists f files h in
      listed f files
      (among_in waited f (and_left (among waited f) (hand f) p.0))
      (and_right (among waited f) (hand f) p.0) p.1
