-- What is ready at a moment at which no child runs is trusted, and so safe to start on.
use Rattle.smk_laws_history.proofs.Valid.{records_valid}
use Rattle.smk_laws_history.proofs.CurrentComplete.{seen_is_complete}
use Rattle.std.specs.List.{list_any}
use Rattle.smk_laws_plan.specs.Current.{eased_by, IsComplete}
use Rattle.std.proofs.Common.{◌≡◌, ◌⊎◌, ℕ, zero, suc, Bool, true, false, not, ◌&&◌, ◌||◌, flat_map, List, [], ◌++◌, refl, sym, ap, subst, inl, inr, ◌∙◌, Option, Some, None, IsTrue, true≢false, eq-eqb, find, map, is_some, ◌∷◌, option_map}
use Rattle.std.specs.Prelude.{bytes_eq}
use Rattle.smk_base.specs.Path.{is_under, overlaps, is_at_or_under}
use Rattle.smk_base.proofs.Places.{place_itself, same_place}
use Rattle.smk_world.specs.declared.event.Child.{Child}
use Rattle.smk_world.specs.declared.recipe.Kind.TheVariants.{Folder as FolderKind}
use Rattle.smk_world.specs.World.{in_paths, out_paths, is_within, reading}
use Rattle.smk_world.specs.Calls.{owned_now}
use Rattle.smk_world.specs.Trees.{Path, Act, among, folders_of, kind_in}
use Rattle.smk_record.specs.declared.record.Stamp.{Stamp}
use Rattle.smk_record.specs.declared.record.Stamp.TheVariants.{Made}
use Rattle.smk_record.specs.declared.record.Record.{Record}
use Rattle.smk_record.specs.Records.{agrees, is_of_source, stamped, core}
use Rattle.smk_pattern.specs.Bound.{BoundFills}
use Rattle.smk_flow.specs.declared.job.Job.{Job}
use Rattle.smk_flow.specs.Flows.{Flow, Candidate}
use Rattle.smk_choose.specs.Choose.{Source, Make, choose}
use Rattle.smk_store.specs.Images.{Image, is_file, is_source, is_whole, core_at}
use Rattle.smk_store.specs.Trust.{Eased, Versions, any_source, same_source, holder, is_marked_but, made_stamp, content_stamp, Clear, Speaks, Chain, Link, Trusted}
use Rattle.smk_store.proofs.Versions.{made_source, serial_same, source_made}
use Rattle.smk_chain.specs.Derive.{job, recipe, walk, sources_of, spots}
use Rattle.smk_pick.specs.declared.settings.Settings.{Settings}
use Rattle.smk_plan.specs.States.{Plan, Progress, gathers_from, is_ready, is_current, is_restored, is_whole_by, stands_whole, IsPlan, state_of, by_table, kept_state, while_running, test_some, job_path}
use Rattle.smk_drive.specs.Moments.{seen, progress_of, IsInForce}
use Rattle.smk_drive.specs.Lawful.{eased, IsSafeInput}
use Rattle.smk_laws_history.specs.Trusted.{TrustedHolds, CurrentIsSafe, CurrentIsTrusted, IsTrustedInput, NoneRuns}
use Rattle.smk_laws_plan.proofs.CurrentLists.{In, zip_first, or_cases, or_first, or_second, and_right, clash_of, some_inj, in_either, in_left, in_right, in_map, in_flat, none_in}
use Rattle.smk_laws_plan.proofs.CurrentReach.{reached_zero, reached_step, choice_known}
use Rattle.smk_laws_plan.proofs.CurrentChosen.{chosen_viable}
use Rattle.smk_laws_plan.proofs.CurrentFills.{bound_fills_from}
use Rattle.smk_pattern.proofs.Names.{numbered_all}
use Rattle.smk_laws_plan.proofs.CurrentMeaning.{in_from, source_chosen, source_file, source_stamp, source_stamp_but, contains_from}
use Rattle.smk_laws_plan.proofs.CurrentRecipes.{inputs_wanted}
use Rattle.smk_laws_plan.proofs.CurrentProducts.{Planned, ReachedHere, Quiet, Product, quiet_product, quiet_input, ready_quiet, ready_whole, ready_parts, own_outputs, member_over, not_restored, core_reads, in_plan_here, maker_clean}
use Rattle.smk_laws_history.proofs.CurrentLaw.{last_is}
use Rattle.smk_laws_history.proofs.CurrentReads.{wanted_comes}
use Rattle.smk_laws_history.proofs.CurrentAtExit.{in_force, none_run}
use Rattle.smk_laws_plan.proofs.CurrentStates.{unless_never}
use Rattle.smk_laws_plan.proofs.CurrentApart.{SpotsApart, spots_append, spots_apart, output_spot}
use Rattle.smk_laws_plan.proofs.CurrentPaths.{Above, above_touch, touch_overlaps, touch_turned}
use Rattle.smk_laws_plan.proofs.PlanOne.{derived_clear}
use Rattle.smk_trigger.specs.declared.reason.State.{State}
use Rattle.smk_trigger.specs.declared.reason.State.TheVariants.{Open, Dirty, Restore, Clean}
use Rattle.smk_trigger.specs.JobStates.{is_clean, is_restore}

-- ## Chains

-- a chain whose sources are as recorded is a chain
loosen : (image : Image) (e : Eased) (r : Record) → Chain image e (same_source image) r → Chain image e any_source r
loosen image e r (Link s place by times speaks chains) =
    Link s place by (λ q s i k. tt) speaks (λ q m i. loosen image e (by q m) (chains q m i))

pub trusted_holds : TrustedHolds
trusted_holds act H image restored sound p r trusted unmarked reads whole =
    let same : trusted.0 ≡ r = some_inj trusted.0 r (sym trusted.1.0 ∙ reads) in
    sound.holds p r reads unmarked
    (loosen image (eased_by image (among restored)) r
    (subst (Chain image (eased_by image (among restored)) (same_source image)) same trusted.2)) whole

module _ (image : Image) (e : Eased) where
  abbrev or_here : Option Path → Path
  or_here None = []
  or_here (Some h) = h

  abbrev record_or : Record → Option Record → Record
  record_or r None = r
  record_or r (Some s) = s

  -- a record speaks for a product among the inputs, with the recorded serial, and hangs together
  record Spoken (q : Path) (m : ℕ) : Type 0 where
    place : Path
    by : Record
    speaks : Speaks image e q place by
    serial : m ≡ by.made
    chain : Chain image e (same_source image) by

  chain_make :
      (r : Record) → ((q : Path) (s : Stamp) → In (q, s) (stamped r) → is_of_source s ≡ true → same_source image q s) →
      ((q : Path) (m : ℕ) → In (q, Made m) (stamped r) → Spoken q m) → Chain image e (same_source image) r
  chain_make r times h =
      Link r (λ q m. or_here (holder image q)) (λ q m. record_or r (core_at image (or_here (holder image q)))) times
      (λ q m i. let s = h q m i in
      let place = found q s.place s.speaks.holder in
      let same = read q s.place s.by place s.speaks.clear.0 in (
        subst (λ (w : Path × Record). Speaks image e q w.0 w.1) (λ i. (place i, same i)) s.speaks,
        subst (λ (w : Record). agrees (Made m) (made_stamp (Some w)) ≡ true) same (eq-eqb m s.by.made s.serial),
      ))
      (λ q m i. let s = h q m i in
      subst (Chain image e (same_source image)) (read q s.place s.by (found q s.place s.speaks.holder) s.speaks.clear.0) s.chain)
    where
      found : (q p : Path) → holder image q ≡ Some p → p ≡ or_here (holder image q)
      found q p f = sym (ap or_here f)

      read : (q p : Path) (s : Record) → p ≡ or_here (holder image q) → core_at image p ≡ Some s → s ≡ record_or r (core_at image (or_here (holder image q)))
      read q p s f g = sym (ap (record_or r) g) ∙ ap (λ w. record_or r (core_at image w)) f

-- ## Quiet jobs

module _
    (flow : Flow) (act : Act) (has_fields : Job → Bool) (image : Image) (H : Versions) (settings : Settings) (progress : Progress)
    (plan : Plan) (rest : Planned flow image settings progress plan) (e : Eased)
    (ease : (h : Path) (r : Record) → is_restored image settings progress plan h ≡ true → core_at image h ≡ Some r → e h r) where
  abbrev fills : BoundFills
  fills = bound_fills_from numbered_all

  abbrev left_out : Path → Bool
  left_out p = is_restored image settings progress plan p

  abbrev comes : ℕ → Path → Type 0
  comes n p = ReachedHere flow act has_fields image H settings progress plan n p

  abbrev product : Candidate → Path → Path → Record → Type 0
  product c q h r = Product flow act has_fields image H settings progress plan c q h r

  abbrev quiet : Candidate → Type 0
  quiet c = Quiet flow act has_fields image H settings progress plan c

  abbrev walked : List Candidate
  walked = flat_map (walk flow (sources_of image) plan.lists 200) settings.targets

  input_here :
      (n : ℕ) (p : Path) (c : Candidate) (h : Path) (r : Record) (q : Path) (s : Stamp) →
      comes (suc n) p → product c p h r → In (q, s) (stamped r) → In q (in_paths (recipe flow plan.lists c)) × comes n q
  input_here n p c h r q s reached made k =
      let inn = subst (λ rec. In q (in_paths rec)) made.same (zip_first (in_paths r.recipe) r.stamps q s k) in
      (inn, reached_step flow (sources_of image) plan.lists walked n p c q reached made.chosen (inputs_wanted flow c plan.lists q inn))

  -- the record at an output whose mark doesn't count
  cleared : (h : Path) (r : Record) → core_at image h ≡ Some r → is_marked_but image left_out h ≡ false → Clear image e h r
  cleared h r reads counted = (reads, go (image.marked h) refl (left_out h) refl counted)
    where
      go : (m : Bool) → image.marked h ≡ m → (b : Bool) → left_out h ≡ b → (m && not b) ≡ false → (image.marked h ≡ false) ⊎ e h r
      go false x b y z = inl x
      go true x true y z = inr (ease h r y reads)
      go true x false y z = absurd (true≢false z)

  abbrev TrustedBefore : ℕ → Type 0
  TrustedBefore n = (q : Path) (c : Candidate) (h : Path) (r : Record) → comes n q → product c q h r → quiet c → Chain image e (same_source image) (core r)

  same_now :
      (n : ℕ) (p : Path) (c : Candidate) (h : Path) (r : Record) → comes (suc n) p → product c p h r → quiet c →
      (q : Path) (s : Stamp) → In (q, s) (stamped r) → is_of_source s ≡ true → same_source image q s
  same_now n p c h r reached made calm q s k source =
      let here = input_here n p c h r q s reached made k in
      go here.0 here.1 (choice_known flow (sources_of image) plan.lists n q here.1.calm)
    where
      go : In q (in_paths (recipe flow plan.lists c)) → comes n q → (choose flow (sources_of image) q ≡ Source) ⊎ ((d : Candidate) × (choose flow (sources_of image) q ≡ Make d)) → same_source image q s
      go inn below (inl x) =
          let is = source_chosen flow (sources_of image) q x in
          let f = source_file image q is in
          let now = source_stamp image q f.0 is f.1 in
          let same = made.agrees q s (content_stamp f.0) k (source_stamp_but image left_out q f.0 is f.1) in
          subst (λ o. agrees s o ≡ true) (sym now) same
      go inn below (inr d) =
          let quiet_d = quiet_input flow act has_fields image H settings progress plan fills rest n p c q d.0 reached made.chosen calm inn d.1 in
          let from = quiet_product flow act has_fields image H settings progress plan fills rest n q d.0 below d.1 quiet_d in
          absurd (source_made s from.1.made source (made.agrees q s (Made from.1.made) k from.2.stamp))

  spoken :
      (n : ℕ) → TrustedBefore n → (p : Path) (c : Candidate) (h : Path) (r : Record) → comes (suc n) p → product c p h r → quiet c →
      (q : Path) (m : ℕ) → In (q, Made m) (stamped r) → Spoken image e q m
  spoken n ih p c h r reached made calm q s k =
      let here = input_here n p c h r q (Made s) reached made k in
      go here.0 here.1 (choice_known flow (sources_of image) plan.lists n q here.1.calm)
    where
      go : In q (in_paths (recipe flow plan.lists c)) → comes n q → (choose flow (sources_of image) q ≡ Source) ⊎ ((d : Candidate) × (choose flow (sources_of image) q ≡ Make d)) → Spoken image e q s
      go inn below (inl x) =
          let is = source_chosen flow (sources_of image) q x in
          let f = source_file image q is in
          absurd (made_source s f.0 (made.agrees q (Made s) (content_stamp f.0) k (source_stamp_but image left_out q f.0 is f.1)))
      go inn below (inr d) =
          let quiet_d = quiet_input flow act has_fields image H settings progress plan fills rest n p c q d.0 reached made.chosen calm inn d.1 in
          let from = quiet_product flow act has_fields image H settings progress plan fills rest n q d.0 below d.1 quiet_d in
          let product = from.2 in
          record {
            place = from.0;
            by = core from.1;
            speaks = record {
              no_source = (chosen_viable flow (sources_of image) q d.0 d.1).1;
              holder = product.holds;
              clear = cleared from.0 (core from.1) (core_reads image from.0 from.1 product.reads) product.unmarked;
            };
            serial = serial_same s from.1.made (made.agrees q (Made s) (Made from.1.made) k product.stamp);
            chain = ih q d.0 from.0 from.1 below product quiet_d;
          }

  trusted_at : (n : ℕ) → TrustedBefore n
  trusted_at zero q c h r reached made calm = absurd (reached_zero flow (sources_of image) plan.lists walked q c reached made.chosen)
  trusted_at (suc n) q c h r reached made calm =
      chain_make image e (core r) (same_now n q c h r reached made calm) (spoken n (trusted_at n) q c h r reached made calm)

  -- ## Inputs

  -- a member is there as a file
  filed :
      (n : ℕ) (p : Path) (c : Candidate) → comes n p → choose flow (sources_of image) p ≡ Make c →
      (h : Path) → (p ≡ h) ⊎ (is_under p h ≡ true) × In h (folders_of (recipe flow plan.lists c)) →
      stands_whole image p (job flow plan.lists c) ≡ true → IsTrue (bytes_eq h p || is_file image p)
  filed n p c below s h (inl same) stands = or_first (bytes_eq h p) (is_file image p) (subst (λ q. bytes_eq q p ≡ true) same (place_itself p))
  filed n p c below s h (inr u) stands =
      let apart = own_outputs flow act has_fields image H settings progress plan fills rest n p c below s in
      let over = member_over flow act has_fields image H settings progress plan fills rest c h p apart u.0 u.1 in
      let w = sym (ap (is_whole_by image p (kind_in (recipe flow plan.lists c) p)) over) ∙ stands in
      or_second (bytes_eq h p) (is_file image p) (and_right (is_whole image h FolderKind) (is_file image p) w)

  -- what makes a ready path isn't being restored, so that no mark of it is left out
  unmarked_when_ready :
      (n : ℕ) (p : Path) (c : Candidate) (h : Path) → comes n p → choose flow (sources_of image) p ≡ Make c →
      is_ready image settings progress plan p ≡ true → In h (out_paths (recipe flow plan.lists c)) → is_marked_but image left_out h ≡ false → image.marked h ≡ false
  unmarked_when_ready n p c h below s ready inn counted =
      go (image.marked h) (left_out h) (not_restored flow act has_fields image H settings progress plan fills rest n p c h below s ready inn) counted
    where
      go : (m b : Bool) → b ≡ false → (m && not b) ≡ false → m ≡ false
      go m true x y = absurd (true≢false x)
      go true false x y = absurd (true≢false y)
      go false false x y = refl

  record IsTrustedAt (p : Path) : Type 0 where
    speaker : Path
    speaks : holder image p ≡ Some speaker
    as_file : IsTrue (bytes_eq speaker p || is_file image p)
    unmarked : image.marked speaker ≡ false
    whole : (r : Record) → core_at image speaker ≡ Some r → IsTrue (is_whole image speaker (kind_in r.recipe speaker))
    trusted : Trusted image e speaker
    -- its job, which is Clean
    maker : Job
    maker_here : In maker plan.jobs
    made_there : In speaker (out_paths maker.recipe)
    above : Above p speaker
    clean : is_clean (state_of image settings progress plan maker) ≡ true

  made_trusted : (n : ℕ) (p : Path) → comes n p → (c : Candidate) → choose flow (sources_of image) p ≡ Make c → is_ready image settings progress plan p ≡ true → IsTrustedAt p
  made_trusted zero p below c s ready = absurd (reached_zero flow (sources_of image) plan.lists walked p c below s)
  made_trusted (suc n) p below c s ready =
      let calm = ready_quiet flow act has_fields image H settings progress plan fills rest n p c below s ready in
      let from = quiet_product flow act has_fields image H settings progress plan fills rest (suc n) p c below s calm in
      let product = from.2 in
      let whole = ready_whole flow act has_fields image H settings progress plan fills rest (suc n) p c from.0 from.1 below product ready in
      let reads = core_reads image from.0 from.1 product.reads in
      let stands = (ready_parts flow act has_fields image H settings progress plan fills rest (suc n) p c below s ready).1 in
      let unmarked = unmarked_when_ready (suc n) p c from.0 below s ready product.is_output product.unmarked in
      record {
        speaker = from.0;
        speaks = product.holds;
        as_file = filed (suc n) p c below s from.0 product.place stands;
        unmarked = unmarked;
        whole = λ r k. subst (λ (s : Record). IsTrue (is_whole image from.0 (kind_in s.recipe from.0))) (some_inj (core from.1) r (sym reads ∙ k)) whole.0;
        trusted = (core from.1, (reads, inl unmarked), trusted_at (suc n) p c from.0 from.1 below product calm);
        maker = job flow plan.lists c;
        maker_here = in_plan_here flow act has_fields image H settings progress plan fills rest (suc n) p c below s;
        made_there = product.is_output;
        above = over from.0 product.place;
        clean = maker_clean flow act has_fields image H settings progress plan fills rest (suc n) p c below s ready;
      }
    where
      over : (h : Path) → (p ≡ h) ⊎ (is_under p h ≡ true) × In h (folders_of (recipe flow plan.lists c)) → Above p h
      over h (inl x) = inl x
      over h (inr x) = inr x.0

  read_trusted : (j : Job) (p : Path) → In j plan.jobs → In p (in_paths j.recipe ++ gathers_from j) → IsTrue (is_current image settings progress plan p) → IsTrue (is_source image p) ⊎ IsTrustedAt p
  read_trusted j p h i current =
      let w = wanted_comes flow act has_fields image H settings progress plan rest j p h i in
      go w.0 w.2 (choice_known flow (sources_of image) plan.lists w.0 p w.2.calm) (or_cases (is_source image p) (is_ready image settings progress plan p) current)
    where
      go : (n : ℕ) → comes n p → (choose flow (sources_of image) p ≡ Source) ⊎ ((c : Candidate) × (choose flow (sources_of image) p ≡ Make c)) → (is_source image p ≡ true) ⊎ (is_ready image settings progress plan p ≡ true) → IsTrue (is_source image p) ⊎ IsTrustedAt p
      go n below ch (inl is) = inl is
      go n below (inl s) (inr ready) = inl (source_chosen flow (sources_of image) p s)
      go n below (inr (c, s)) (inr ready) = inr (made_trusted n p below c s ready)

no_act : Act
no_act r trees = record { status = 0; outputs = [] }

pub current_is_trusted : CurrentIsTrusted
current_is_trusted flow image settings progress plan complete valid is j p inn reads current =
    go (read_trusted flow no_act (λ j. true) image (λ q t. None) settings progress plan (record { complete = complete; valid = valid; derived = is })
    (eased_by image (is_restored image settings progress plan)) (λ h r a b. (a, b))
    j p (in_from plan.jobs j inn) (in_from (in_paths j.recipe ++ gathers_from j) p reads) current)
  where
    go : IsTrue (is_source image p) ⊎ IsTrustedAt flow no_act (λ j. true) image (λ q t. None) settings progress plan (record { complete = complete; valid = valid; derived = is }) (eased_by image (is_restored image settings progress plan)) (λ h r a b. (a, b)) p → IsTrue (is_source image p) ⊎ IsTrustedInput image (is_restored image settings progress plan) p
    go (inl s) = inl s
    go (inr t) =
        inr (record { speaker = t.speaker; speaks = t.speaks; as_file = t.as_file; unmarked = t.unmarked; whole = t.whole; trusted = t.trusted })

-- ## Safe inputs

-- two spots of a plan that touch are of one job
one_owner :
    (js : List Job) → SpotsApart (flat_map spots js) → (j k : Job) (s t : Path × Bool) → In j js → In k js → In s (spots j) → In t (spots k) →
    overlaps s.0 t.0 ≡ true → overlaps t.0 s.0 ≡ true → j ≡ k
one_owner [] h j k s t i l a b x y = absurd i
one_owner (g ∷ js) h j k s t (inl i) (inl l) a b x y = i ∙ sym l
one_owner (g ∷ js) h j k s t (inl i) (inr l) a b x y =
    let r = spots_append (spots g) (flat_map spots js) h in
    absurd (clash_of (overlaps t.0 s.0) y (r.2 s t (subst (λ (z : Job). In s (spots z)) i a) (in_flat spots js k t l b)))
one_owner (g ∷ js) h j k s t (inr i) (inl l) a b x y =
    let r = spots_append (spots g) (flat_map spots js) h in
    absurd (clash_of (overlaps s.0 t.0) x (r.2 t s (subst (λ (z : Job). In t (spots z)) l b) (in_flat spots js j s i a)))
one_owner (g ∷ js) h j k s t (inr i) (inr l) a b x y =
    one_owner js (spots_append (spots g) (flat_map spots js) h).1 j k s t i l a b x y

-- a running job isn't Clean
never_clean : (o : Option State) (s : State) → is_some o ≡ true → is_clean (while_running o s) ≡ true → ⊥
never_clean None s h k = true≢false (sym h)
never_clean (Some (Dirty rs)) s h k = true≢false (sym k)
never_clean (Some Open) s h k = unless_never s k
never_clean (Some Restore) s h k = unless_never s k
never_clean (Some Clean) s h k = unless_never s k

own_spot : (j : Job) (o : Path) → In o (out_paths j.recipe ++ j.logs) → (b : Bool) × In (o, b) (spots j)
own_spot j o h = go (in_either o (out_paths j.recipe) j.logs h)
  where
    go : In o (out_paths j.recipe) ⊎ In o j.logs → (b : Bool) × In (o, b) (spots j)
    go (inl i) = (true, in_left (o, true) (map (λ p. (p, true)) (out_paths j.recipe)) (map (λ p. (p, false)) j.logs) (in_map (λ p. (p, true)) (out_paths j.recipe) o i))
    go (inr i) = (false, in_right (o, false) (map (λ p. (p, true)) (out_paths j.recipe)) (map (λ p. (p, false)) j.logs) (in_map (λ p. (p, false)) j.logs o i))

within_in : (ps : List Path) (p : Path) → is_within p ps ≡ true → (o : Path) × In o ps × (is_at_or_under p o ≡ true)
within_in [] p h = absurd (true≢false (sym h))
within_in (q ∷ ps) p h = go (or_cases (is_at_or_under p q) (is_within p ps) h) (within_in ps p)
  where
    go : (is_at_or_under p q ≡ true) ⊎ (is_within p ps ≡ true) → (is_within p ps ≡ true → (o : Path) × In o ps × (is_at_or_under p o ≡ true)) → (o : Path) × In o (q ∷ ps) × (is_at_or_under p o ≡ true)
    go (inl e) ih = (q, inl refl, e)
    go (inr e) ih = let r = ih e in (r.0, inr r.1, r.2)

owner_of : (cs : List Child) (p : Path) → is_within p (owned_now cs) ≡ true → (c : Child) × (o : Path) × In c cs × In o (out_paths c.recipe ++ c.logs) × (is_at_or_under p o ≡ true)
owner_of cs p h =
    let o = within_in (owned_now cs) p h in let c = owning cs o.0 o.1 in (c.0, o.0, c.1, c.2, o.2)
  where
    owning : (cs : List Child) (o : Path) → In o (owned_now cs) → (c : Child) × In c cs × In o (out_paths c.recipe ++ c.logs)
    owning [] o i = absurd i
    owning (c ∷ cs) o i = go (in_either o (out_paths c.recipe ++ c.logs) (owned_now cs) i) (owning cs o)
      where
        go : In o (out_paths c.recipe ++ c.logs) ⊎ In o (owned_now cs) → (In o (owned_now cs) → (d : Child) × In d cs × In o (out_paths d.recipe ++ d.logs)) → (d : Child) × In d (c ∷ cs) × In o (out_paths d.recipe ++ d.logs)
        go (inl l) ih = (c, inl refl, l)
        go (inr l) ih = let r = ih l in (r.0, inr r.1, r.2)

at_above : (p o : Path) → is_at_or_under p o ≡ true → Above p o
at_above p o h = go (or_cases (bytes_eq p o) (is_under p o) h)
  where
    go : (bytes_eq p o ≡ true) ⊎ (is_under p o ≡ true) → Above p o
    go (inl e) = inl (same_place p o e)
    go (inr u) = inr u

module _
    (flow : Flow) (image : Image) (settings : Settings) (progress : Progress) (plan : Plan) (complete : IsComplete image)
    (is : IsPlan flow image settings progress plan) where
  -- what a job of the plan that runs owns holds no path that is ready
  owns_none_ready :
      (j : Job) (o p h : Path) (k : Job) → In j plan.jobs → is_some (kept_state image settings progress plan j) ≡ true → In o (out_paths j.recipe ++ j.logs) → Above p o →
      In k plan.jobs → In h (out_paths k.recipe) → Above p h → is_clean (state_of image settings progress plan k) ≡ true → ⊥
  owns_none_ready j o p h k i runs own above l out over clean =
      let s = own_spot j o own in
      let apart = spots_apart image [] (flat_map spots plan.jobs) (derived_clear flow image plan.lists settings.targets plan.jobs complete is.derived) in
      let touch = above_touch p o h above over in
      let same =
      one_owner plan.jobs apart j k (o, s.0) (h, true) i l s.1 (output_spot k h out) (touch_overlaps o h touch) (touch_overlaps h o (touch_turned o h touch)) in
      never_clean (kept_state image settings progress plan k) (by_table image settings progress plan k)
      (subst (λ x. is_some (kept_state image settings progress plan x) ≡ true) same runs) clean

pub none_runs : NoneRuns
none_runs rules m plan none =
    record {
      children = λ c i. absurd (none_in c m.world.children none (in_from m.world.children c i));
      restores = λ h x. absurd (clash_of (is_restored (seen rules m.world) rules.settings (progress_of m.world m.begun) plan h) x (idle h));
    }
  where
    idle : (h : Path) → is_restored (seen rules m.world) rules.settings (progress_of m.world m.begun) plan h ≡ false
    idle h =
        ap (λ (r : List (Path × State)). list_any (λ (j : Job). test_some is_restore (option_map (λ (e : Path × State). e.1) (find (λ (e : Path × State). bytes_eq e.0 (job_path j)) r)) && among (out_paths j.recipe) h) plan.jobs) (none_run m.world m.begun none)
        ∙ no_job plan.jobs
      where
        no_job : (js : List Job) → list_any (λ (j : Job). false) js ≡ false
        no_job [] = refl
        no_job (j ∷ js) = no_job js

pub current_is_safe : CurrentIsSafe
current_is_safe rules entry log m plan moment at_rest planned formed runs j p inn reads current =
    go (read_trusted rules.flow no_act (λ j. true) (seen rules m.world) (λ q t. None) rules.settings (progress_of m.world m.begun) plan here (eased rules m) ease j p (in_from plan.jobs j inn) (in_from (in_paths j.recipe ++ gathers_from j) p reads) current)
  where
    is : IsPlan rules.flow (seen rules m.world) rules.settings (progress_of m.world m.begun) plan
    is =
        last_is rules.flow (seen rules m.world) rules.settings (progress_of m.world m.begun) m.from plan
        (subst (IsInForce rules m.world m.begun m.from) planned (in_force rules entry log m moment at_rest))

    complete : IsComplete (seen rules m.world)
    complete = seen_is_complete rules.read m.world formed

    here : Planned rules.flow (seen rules m.world) rules.settings (progress_of m.world m.begun) plan
    here = record { complete = complete; valid = records_valid rules.read m.world.names (λ q. reading (m.world.nodes q)); derived = is }

    ease : (h : Path) (r : Record) → is_restored (seen rules m.world) rules.settings (progress_of m.world m.begun) plan h ≡ true → core_at (seen rules m.world) h ≡ Some r → eased rules m h r
    ease h r x y = (runs.restores h x, y)

    free : (k : Job) (h : Path) → In k plan.jobs → In h (out_paths k.recipe) → Above p h → is_clean (state_of (seen rules m.world) rules.settings (progress_of m.world m.begun) plan k) ≡ true → (b : Bool) → is_within p (owned_now m.world.children) ≡ b → b ≡ false
    free k h i out over clean false e = refl
    free k h i out over clean true e =
        let c = owner_of m.world.children p e in
        let r = runs.children c.0 (contains_from m.world.children c.0 c.2) in
        absurd (owns_none_ready rules.flow (seen rules m.world) rules.settings (progress_of m.world m.begun) plan complete is r.0 c.1 p h k (in_from plan.jobs r.0 r.1) r.4
        (subst (λ os. In c.1 (os ++ r.0.logs)) r.2 (subst (λ ls. In c.1 (out_paths c.0.recipe ++ ls)) r.3 c.3)) (at_above p c.1 c.4) i out over clean)

    go : IsTrue (is_source (seen rules m.world) p) ⊎ IsTrustedAt rules.flow no_act (λ j. true) (seen rules m.world) (λ q t. None) rules.settings (progress_of m.world m.begun) plan here (eased rules m) ease p → IsSafeInput rules m p
    go (inl s) = inl s
    go (inr t) =
        inr (record {
          not_owned = free t.maker t.speaker t.maker_here t.made_there t.above t.clean (is_within p (owned_now m.world.children)) refl;
          speaker = t.speaker;
          speaks = t.speaks;
          as_file = t.as_file;
          unmarked = t.unmarked;
          whole = t.whole;
          trusted = t.trusted;
        })
