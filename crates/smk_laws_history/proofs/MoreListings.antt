-- With more listings the jobs of a plan stay; and one that isn't Open stays as it is.
use Rattle.std.proofs.Common.{◌≡◌, ◌⊎◌, ℕ, zero, suc, Bool, true, false, not, cond, ◌&&◌, ◌||◌, List, [], ◌∷◌, ◌++◌, map, filter, filter_map, flat_map, find, zip, refl, sym, ap, subst, inl, inr, ◌∙◌, Option, Some, None, option_map, is_none, true≢false, Contains}
use Rattle.std.specs.List.{list_any}
use Rattle.std.specs.Prelude.{bytes_eq}
use Rattle.smk_world.specs.World.{in_paths}
use Rattle.smk_world.specs.Trees.{Path, is_path_text}
use Rattle.smk_record.specs.declared.record.Member.{Member}
use Rattle.smk_record.specs.Records.{members_of}
use Rattle.smk_pattern.specs.Shapes.{Text}
use Rattle.smk_pattern.specs.Reading.{fill}
use Rattle.smk_pattern.specs.Bound.{binding_of}
use Rattle.smk_flow.specs.declared.rule.InPart.{InPart}
use Rattle.smk_flow.specs.declared.rule.GatherPart.{GatherPart}
use Rattle.smk_flow.specs.declared.job.Job.{Job}
use Rattle.smk_flow.specs.Flows.{Flow, Candidate, gathered_folders, declared_inputs, folder_from}
use Rattle.smk_choose.specs.Choose.{Sources, Choice, Source, Make, Nothing, Ambiguous, choose}
use Rattle.smk_store.specs.Images.{Image, stands, readable, is_file, is_covered, is_source}
use Rattle.smk_store.specs.declared.store.Kept.{Kept}
use Rattle.smk_chain.specs.declared.jobs.Known.{Known}
use Rattle.smk_chain.specs.Derive.{Listings, listing, or_none, gathered, gathered_in, gathered_files, wants, recipe, job, walk, distinct, same_candidate, sources_of, Derived, derivation}
use Rattle.smk_trigger.specs.declared.reason.State.{State}
use Rattle.smk_pick.specs.declared.settings.Settings.{Settings}
use Rattle.smk_plan.specs.States.{Plan, Progress, IsPlan, AreListed, makes, gathers_from, awaits, is_ready, is_at_hand, is_open_now, directory_over, maker_of, state_of, files_listed}
use Rattle.smk_laws_plan.specs.Current.{IsComplete}
use Rattle.smk_laws_plan.specs.Plans.{InputsComeFirst, KeepsJobs, KeepsUnopened}
use Rattle.smk_laws_plan.proofs.CurrentLists.{In, in_left, in_right, in_either, in_flat, flat_in, map_in, distinct_in, any_none, or_left, or_right, and_right, not_false, not_true, clash_of, none_some}
use Rattle.smk_laws_plan.proofs.CurrentReach.{Reached, reached_step, choice_known, walk_by, walk_make}
use Rattle.smk_laws_plan.proofs.CurrentRecipes.{job_same, folders_wanted}
use Rattle.smk_laws_plan.proofs.CurrentWalked.{walked_job}
use Rattle.smk_laws_plan.proofs.CurrentApart.{maker_found}
use Rattle.smk_laws_history.proofs.CurrentLaw.{listing_either}
use Rattle.smk_laws_plan.proofs.CurrentMeaning.{contains_from, in_from, source_chosen}
use Rattle.smk_laws_plan.proofs.PlanOrder.{Within, InOrder, own_walked, walked_reached}
use Rattle.smk_laws_plan.proofs.PlanStates.{all_clean}
use Rattle.smk_laws_plan.proofs.PlanOne.{served_at, pair_first, derived_apart, derived_order, derived_reached, chosen_makes, derived}

-- ## Inputs come first

pub inputs_come_first : InputsComeFirst
inputs_come_first flow image settings progress plan before after j k q complete is e reads h makes_q =
    let apart = derived_apart flow image plan.lists settings.targets plan.jobs complete is.derived in
    let order = derived_order flow image plan.lists settings.targets plan.jobs complete is.derived in
    let s = served_at plan.jobs [] before j after (subst (InOrder plan.jobs []) e order) in
    go s.0 s.1 (s.2 q (in_either q (in_paths j.recipe) (gathers_from j) (in_from (in_paths j.recipe ++ gathers_from j) q reads)))
  where
    here : In k plan.jobs
    here = in_from plan.jobs k h

    front : (x : Job) → In x [] ⊎ In x before → In x before
    front x (inl l) = absurd l
    front x (inr l) = l

    clean : Job → State
    clean = all_clean image settings progress plan.lists plan.jobs

    go : (s : List Job) → ((x : Job) → In x s → In x [] ⊎ In x before) → ((x : Job) → In x plan.jobs → makes x q ≡ false) ⊎ ((x : Job) × In x s × (makes x q ≡ true)) → Contains before k
    go s within (inl none) = absurd (clash_of (makes k q) makes_q (none k here))
    go s within (inr (x, l, m)) =
        let apart = derived_apart flow image plan.lists settings.targets plan.jobs complete is.derived in
        let x_before = front x (within x l) in
        let x_here = subst (In x) (sym e) (in_left x before (j ∷ after) x_before) in
        contains_from before k
        (subst (λ y. In y before) (pair_first (x, clean x) (k, clean k) (sym (maker_found clean plan.jobs x q apart x_here m) ∙ maker_found clean plan.jobs k q apart here makes_q)) x_before)

-- ## More listings

found_still : {A : Type 0} (test : A → Bool) (xs ys : List A) (z : A) → find test xs ≡ Some z → find test (xs ++ ys) ≡ Some z
found_still test [] ys z h = absurd (none_some None z refl h)
found_still test (x ∷ xs) ys z h = go (test x) h (found_still test xs ys z)
  where
    go : (b : Bool) → cond b (Some x) (find test xs) ≡ Some z → (find test xs ≡ Some z → find test (xs ++ ys) ≡ Some z) → cond b (Some x) (find test (xs ++ ys)) ≡ Some z
    go true h ih = h
    go false h ih = ih h

listing_some : (o : Option Known) (files : List Path) → option_map (λ (k : Known). k.files) o ≡ Some files → (k : Known) × (o ≡ Some k)
listing_some None files h = absurd (none_some None files refl h)
listing_some (Some k) files h = (k, refl)

pub listing_still : (L M : Listings) (f : Path) (files : List Path) → listing L f ≡ Some files → listing (L ++ M) f ≡ Some files
listing_still L M f files e =
    let r = listing_some (find (λ (k : Known). bytes_eq k.folder f) L) files e in
    ap (option_map (λ (k : Known). k.files)) (found_still (λ (k : Known). bytes_eq k.folder f) L M r.0 r.1)
    ∙ (sym (ap (option_map (λ (k : Known). k.files)) r.1) ∙ e)

module _ (flow : Flow) (L M : Listings) (c : Candidate) where
  -- what is gathered with some listings is so with more
  gathered_more : (o : Option GatherPart) → Within (gathered_in flow L c o) (gathered_in flow (L ++ M) c o)
  gathered_more None x h = h
  gathered_more (Some g) x h = go (listing L (folder_from flow c.binding g.checkpoint)) refl h
    where
      by : Option (List Path) → List Text
      by o = filter_map (λ file. option_map (λ b. fill (b ++ c.binding) g.wanted) (binding_of c.part.limits g.listed file)) (or_none o)

      go : (o : Option (List Path)) → listing L (folder_from flow c.binding g.checkpoint) ≡ o → In x (filter_map (λ file. option_map (λ b. fill (b ++ c.binding) g.wanted) (binding_of c.part.limits g.listed file)) (or_none o)) → In x (gathered (L ++ M) c (folder_from flow c.binding g.checkpoint) g)
      go None e h = absurd h
      go (Some files) e h =
          subst (λ o. In x (filter_map (λ file. option_map (λ b. fill (b ++ c.binding) g.wanted) (binding_of c.part.limits g.listed file)) (or_none o)))
          (sym (listing_still L M (folder_from flow c.binding g.checkpoint) files e)) h

  wants_more : Within (wants flow L c) (wants flow (L ++ M) c)
  wants_more x h = go (in_either x (declared_inputs flow c) (gathered_folders flow c ++ gathered_files flow L c) h)
    where
      files : In x (gathered_files flow L c) → In x (gathered_files flow (L ++ M) c)
      files i =
          let r = flat_in (λ (i : InPart). gathered_in flow L c i.gather) c.part.inputs x i in
          in_flat (λ (i : InPart). gathered_in flow (L ++ M) c i.gather) c.part.inputs r.0 x r.1 (gathered_more r.0.gather x r.2)

      rest : In x (gathered_folders flow c) ⊎ In x (gathered_files flow L c) → In x (wants flow (L ++ M) c)
      rest (inl i) =
          in_right x (declared_inputs flow c) (gathered_folders flow c ++ gathered_files flow (L ++ M) c) (in_left x (gathered_folders flow c) (gathered_files flow (L ++ M) c) i)
      rest (inr i) =
          in_right x (declared_inputs flow c) (gathered_folders flow c ++ gathered_files flow (L ++ M) c)
          (in_right x (gathered_folders flow c) (gathered_files flow (L ++ M) c) (files i))

      go : In x (declared_inputs flow c) ⊎ In x (gathered_folders flow c ++ gathered_files flow L c) → In x (wants flow (L ++ M) c)
      go (inl i) = in_left x (declared_inputs flow c) (gathered_folders flow c ++ gathered_files flow (L ++ M) c) i
      go (inr i) = rest (in_either x (gathered_folders flow c) (gathered_files flow L c) i)

module _ (flow : Flow) (srcs : Sources) (L M : Listings) where
  -- what is walked with some listings is so with more
  pub walk_more : (n : ℕ) (p : Path) → Within (walk flow srcs L n p) (walk flow srcs (L ++ M) n p)
  walk_more zero p c h = h
  walk_more (suc n) p c h = go (choose flow srcs p) refl h (λ q d k. walk_more n q d k)
    where
      here : (d : Candidate) → choose flow srcs p ≡ Make d → In c (flat_map (walk flow srcs (L ++ M) n) (wants flow (L ++ M) d) ++ d ∷ []) → In c (walk flow srcs (L ++ M) (suc n) p)
      here d e k = subst (In c) (sym (walk_make flow srcs (L ++ M) n p d e)) k

      parts : (d : Candidate) → choose flow srcs p ≡ Make d → In c (flat_map (walk flow srcs L n) (wants flow L d)) ⊎ In c (d ∷ []) → ((q : Path) (d : Candidate) → In d (walk flow srcs L n q) → In d (walk flow srcs (L ++ M) n q)) → In c (walk flow srcs (L ++ M) (suc n) p)
      parts d e (inl k) ih =
          let r = flat_in (walk flow srcs L n) (wants flow L d) c k in
          here d e
          (in_left c (flat_map (walk flow srcs (L ++ M) n) (wants flow (L ++ M) d)) (d ∷ [])
          (in_flat (walk flow srcs (L ++ M) n) (wants flow (L ++ M) d) r.0 c (wants_more flow L M d r.0 r.1) (ih r.0 c r.2)))
      parts d e (inr k) ih = here d e (in_right c (flat_map (walk flow srcs (L ++ M) n) (wants flow (L ++ M) d)) (d ∷ []) k)

      go : (ch : Choice) → choose flow srcs p ≡ ch → In c (walk_by flow srcs L n ch) → ((q : Path) (d : Candidate) → In d (walk flow srcs L n q) → In d (walk flow srcs (L ++ M) n q)) → In c (walk flow srcs (L ++ M) (suc n) p)
      go Source e k ih = absurd k
      go (Nothing lack) e k ih = absurd k
      go (Ambiguous a b) e k ih = absurd k
      go (Make d) e k ih = parts d e (in_either c (flat_map (walk flow srcs L n) (wants flow L d)) (d ∷ []) k) ih

-- no record stands at a source
pub source_files : (image : Image) (f : Path) → is_source image f ≡ true → files_listed image f ≡ []
source_files image f h = ap (λ o. map (λ (m : Member). m.name) (filter (λ (m : Member). not m.folder) (members_of o))) (unread (image.kept f) unkept)
  where
    unkept : stands (image.kept f) ≡ false
    unkept = or_left _ _ (or_left _ _ (not_true (is_covered image f) (and_right (is_file image f) _ (and_right (is_path_text f) _ h))))

    unread : (k : Kept) → stands k ≡ false → readable k ≡ None
    unread Kept.Absent e = refl
    unread Kept.Unreadable e = refl
    unread (Kept.Held r) e = absurd (true≢false e)

module _
    (flow : Flow) (image : Image) (settings : Settings) (progress : Progress) (plan : Plan) (M : Listings) (later : List Job)
    (complete : IsComplete image) (is : IsPlan flow image settings progress plan)
    (after : derivation flow image (plan.lists ++ M) settings.targets ≡ Derived later) where
  abbrev srcs : Sources
  srcs = sources_of image

  abbrev L : Listings
  L = plan.lists

  abbrev walked : List Candidate
  walked = flat_map (walk flow srcs L 200) settings.targets

  -- a job of the plan, by its candidate, and a path for which it is chosen
  record Origin (j : Job) : Type 0 where
    from : Candidate
    left : ℕ
    path : Path
    is_job : j ≡ job flow L from
    reached : Reached flow srcs L walked (suc left) path
    chosen : choose flow srcs path ≡ Make from
    goes_on : In (job flow (L ++ M) from) later

  origin_of : (j : Job) → In j plan.jobs → Origin j
  origin_of j h =
      let d = derived flow image L settings.targets plan.jobs complete is.derived in
      let e = derived flow image (L ++ M) settings.targets later complete after in
      let c = map_in (job flow L) (distinct same_candidate walked) j (subst (In j) (sym d.1) h) in
      let t = flat_in (walk flow srcs L 200) settings.targets c.0 (distinct_in same_candidate walked c.0 c.1) in
      let w = walked_reached flow srcs L walked 200 t.0 c.0 (derived_reached flow image L settings.targets plan.jobs complete is.derived t.0 t.1) t.2 in
      record {
        from = c.0;
        left = w.0;
        path = w.1;
        is_job = c.2;
        reached = w.2;
        chosen = w.3;
        goes_on =
            subst (In (job flow (L ++ M) c.0)) e.1
            (walked_job flow srcs (L ++ M) settings.targets 200 c.0
            (in_flat (walk flow srcs (L ++ M) 200) settings.targets t.0 c.0 t.1 (walk_more flow srcs L M 200 t.0 c.0 t.2)));
      }

  abbrev state : Job → State
  state j = state_of image settings progress plan j

  maker_here : (q : Path) (c : Candidate) → In (job flow L c) plan.jobs → choose flow srcs q ≡ Make c → maker_of plan q ≡ Some (job flow L c, state (job flow L c))
  maker_here q c h e =
      ap (λ ss. find (λ (e : Job × State). makes e.0 q) (zip plan.jobs ss)) is.states
      ∙ maker_found state plan.jobs (job flow L c) q (derived_apart flow image L settings.targets plan.jobs complete is.derived) h
      (chosen_makes flow image L settings.targets plan.jobs complete is.derived q c e)

  -- a chosen job of a path that the walk comes to is in the plan
  here : (n : ℕ) (q : Path) (c : Candidate) → Reached flow srcs L walked n q → choose flow srcs q ≡ Make c → In (job flow L c) plan.jobs
  here n q c r e =
      subst (In (job flow L c)) (derived flow image L settings.targets plan.jobs complete is.derived).1
      (walked_job flow srcs L settings.targets 200 c (r.within c (own_walked flow srcs L walked n q c r e)))

  shut_parts :
      (j : Job) → is_open_now image settings progress plan j ≡ false →
      (list_any (λ d. not (is_at_hand image settings progress plan d)) (awaits plan j) ≡ false)
      × (list_any (λ d. is_ready image settings progress plan d && is_none (listing plan.lists d)) (gathers_from j) ≡ false)
  shut_parts j h = (or_left _ _ h, or_left _ _ (or_right _ _ h))

  -- the listings of what a job gathers that isn't Open stay
  same_files :
      AreListed image M → (n : ℕ) (p : Path) (c : Candidate) → Reached flow srcs L walked (suc n) p → choose flow srcs p ≡ Make c →
      is_open_now image settings progress plan (job flow L c) ≡ false →
      (f : Path) → In f (gathered_folders flow c) → or_none (listing L f) ≡ or_none (listing (L ++ M) f)
  same_files listed n p c r e shut f i =
      let below = reached_step flow srcs L walked n p c f r e (folders_wanted flow c L f i) in
      go (listing L f) refl (choice_known flow srcs L n f below.calm) below
    where
      missing : (is_ready image settings progress plan f && is_none (listing L f)) ≡ false
      missing = any_none (λ d. is_ready image settings progress plan d && is_none (listing L d)) (gathered_folders flow c) f (shut_parts (job flow L c) shut).1 i

      hand : is_at_hand image settings progress plan f ≡ true
      hand =
          not_false (is_at_hand image settings progress plan f) (any_none (λ d. not (is_at_hand image settings progress plan d)) (awaits plan (job flow L c)) f (shut_parts (job flow L c) shut).0
          (in_left f (gathered_folders flow c) (flat_map (directory_over plan) (in_paths (recipe flow L c) ++ gathered_folders flow c)) i))

      second : (o : Option (Job × State)) (x : Job × State) (b : Bool) → o ≡ Some x → (is_none o || b) ≡ true → b ≡ true
      second o x b e h = sym (ap (λ o. is_none o || b) e) ∙ h

      unlisted : (b : Bool) (o : Option (List Path)) → b ≡ true → (b && is_none o) ≡ false → o ≡ None → ⊥
      unlisted b o x y z = true≢false (sym (λ i. x i && is_none (z i)) ∙ y)

      source : is_source image f ≡ true → (o : Option (List Path)) → listing (L ++ M) f ≡ o → listing L f ≡ None → [] ≡ or_none o
      source s None k none = refl
      source s (Some files) k none =
          sym (pick (listing_either L M f files k))
        where
          pick : (listing L f ≡ Some files) ⊎ (listing M f ≡ Some files) → files ≡ []
          pick (inl a) = absurd (none_some (listing L f) files none a)
          pick (inr b) = listed f files b ∙ source_files image f s

      go : (o : Option (List Path)) → listing L f ≡ o → (choose flow srcs f ≡ Source) ⊎ ((d : Candidate) × (choose flow srcs f ≡ Make d)) → Reached flow srcs L walked n f → or_none (listing L f) ≡ or_none (listing (L ++ M) f)
      go (Some files) k ch below = ap or_none (k ∙ sym (listing_still L M f files k))
      go None k (inl s) below = ap or_none k ∙ source (source_chosen flow srcs f s) (listing (L ++ M) f) refl k
      go None k (inr (d, s)) below =
          let m = maker_here f d (here n f d below s) s in
          absurd (unlisted (is_ready image settings progress plan f) (listing L f) (second (maker_of plan f) (job flow L d, state (job flow L d)) (is_ready image settings progress plan f) m hand) missing k)

  kept : AreListed image M → (j : Job) → In j plan.jobs → is_open_now image settings progress plan j ≡ false → In j later
  kept listed j h shut =
      let o = origin_of j h in
      let same =
      job_same flow o.from L (L ++ M)
      (same_files listed o.left o.path o.from o.reached o.chosen (subst (λ k. is_open_now image settings progress plan k ≡ false) o.is_job shut)) in
      subst (λ k. In k later) (sym (o.is_job ∙ same)) o.goes_on

  found_later : (j : Job) → In j later → (q : Path) → makes j q ≡ true → find (λ k. makes k q) later ≡ Some j
  found_later j h q m =
      let apart = derived_apart flow image (L ++ M) settings.targets later complete after in
      sym (jobs_found later) ∙ ap (option_map (λ (e : Job × Job). e.0)) (maker_found (λ k. k) later j q apart h m)
    where
      jobs_found : (ks : List Job) → option_map (λ (e : Job × Job). e.0) (find (λ (e : Job × Job). makes e.0 q) (zip ks (map (λ k. k) ks))) ≡ find (λ k. makes k q) ks
      jobs_found [] = refl
      jobs_found (k ∷ ks) = go (makes k q) (jobs_found ks)
        where
          go : (b : Bool) → option_map (λ (e : Job × Job). e.0) (find (λ (e : Job × Job). makes e.0 q) (zip ks (map (λ k. k) ks))) ≡ find (λ k. makes k q) ks → option_map (λ (e : Job × Job). e.0) (cond b (Some (k, k)) (find (λ (e : Job × Job). makes e.0 q) (zip ks (map (λ k. k) ks)))) ≡ cond b (Some k) (find (λ k. makes k q) ks)
          go true ih = refl
          go false ih = ih

pub keeps_jobs : KeepsJobs
keeps_jobs flow image settings progress plan more later complete is after j h =
    let o = origin_of flow image settings progress plan more later complete is after j (in_from plan.jobs j h) in
    let k = job flow (plan.lists ++ more) o.from in
    (k, contains_from later k o.goes_on, sym (ap (λ (x : Job). record x { recipe = record x.recipe { inputs = k.recipe.inputs } }) o.is_job))

pub keeps_unopened : KeepsUnopened
keeps_unopened flow image settings progress plan more later complete is after listed j h shut =
    let i = kept flow image settings progress plan more later complete is after listed j (in_from plan.jobs j h) shut in
    (contains_from later j i, λ q m. found_later flow image settings progress plan more later complete is after j i q m)
