-- The law of current targets over one plan: what is ready is clean.
use Rattle.std.proofs.Common.{◌≡◌, ◌⊎◌, ℕ, zero, suc, Bool, true, false, not, ◌&&◌, cond, true≢false, List, [], ◌∷◌, map, refl, sym, ap, subst, inl, inr, ◌∙◌, arith, Option, Some, None, option_map, option_and_then, IsTrue, is_some, Contains, flat_map, eq-eqb}
use Rattle.std.specs.List.{list_all, enumerate_from}
use Rattle.std.proofs.lemmas.List.Elements.{Contains-push, Contains-append_left, Contains-append_right, Contains-append_cases, Contains-push_cases}
use Rattle.smk_base.specs.declared.tree.Tree.{Tree}
use Rattle.smk_base.specs.declared.tree.Tree.TheVariants.{File}
use Rattle.smk_base.specs.Path.{is_path}
use Rattle.smk_world.specs.World.{in_paths, out_paths}
use Rattle.smk_world.specs.Trees.{Path, Act, all_of, files_of, part_at, value_at, is_path_text}
use Rattle.smk_record.specs.declared.record.Stamp.{Stamp}
use Rattle.smk_record.specs.declared.record.Stamp.TheVariants.{Made}
use Rattle.smk_record.specs.declared.record.Record.{Record}
use Rattle.smk_record.specs.Records.{agrees, stamped, core}
use Rattle.smk_pattern.specs.Bound.{BoundFills}
use Rattle.smk_flow.specs.declared.job.Job.{Job}
use Rattle.smk_flow.specs.Flows.{Flow, Candidate, gathered_folders}
use Rattle.smk_choose.specs.Choose.{Sources, Choice, choose, choice, Source, Make, Lack, viable, leader, lack_of_first, candidates}
use Rattle.smk_store.specs.Images.{Image, Content, source_at, file_at, is_file, is_source, core_at, tree_now}
use Rattle.smk_store.specs.Trust.{Versions, holder, stamp_now, content_stamp, source_stamp as stamp_of, made_stamp, unmarked_stamp, is_marked_but, unmarked_stamp_but, stamp_now_but, made_at, Eased, Clear, any_source, Speaks, Chain, Link, vir, Vir, input_value}
use Rattle.smk_store.proofs.Versions.{agreeing, is_serial, made_source, serial_same, source_value}
use Rattle.smk_chain.specs.Derive.{Listings, listing, or_none, job, recipe, wants, walk, sources_of}
use Rattle.smk_chain.specs.Mean.{Setting, setting_of, mean, listings_of, is_runnable}
use Rattle.smk_pick.specs.declared.settings.Settings.{Settings}
use Rattle.smk_plan.specs.States.{Plan, Progress, files_listed, is_ready, is_current}
use Rattle.smk_laws_plan.specs.Current.{IsRight, eased_by}
use Rattle.smk_laws_plan.proofs.CurrentLists.{In, and_left, and_right, and_both, or_cases, all_from, none_some, zip_first}
use Rattle.smk_laws_plan.proofs.CurrentReach.{reached_zero, reached_step, choice_known, has_command, want_path}
use Rattle.smk_laws_plan.proofs.CurrentRecipes.{recipe_same, job_same, wants_same, inputs_wanted, folders_wanted}
use Rattle.smk_laws_plan.proofs.CurrentDepths.{mean_one}
use Rattle.smk_laws_plan.proofs.CurrentValues.{inputs_same, value_given, listings_agree, mean_source, mean_make, vir_make}
use Rattle.smk_laws_plan.proofs.CurrentChosen.{chosen_viable}
use Rattle.smk_laws_plan.proofs.CurrentProducts.{Rested, restored, Quiet, Product, ReachedHere, quiet_product, quiet_input, quiet_folder, ready_whole, not_restored, known, listed, source_listed, in_plan, ready_quiet, target_reached, some_of, file_tree, core_reads, each_stamped}

pub contains_from : {A : Type 0} (xs : List A) (x : A) → In x xs → Contains xs x
contains_from [] x h = absurd h
contains_from (y ∷ xs) x (inl e) = Contains-append_left (y ∷ []) xs x (subst (λ z. Contains (z ∷ []) x) e (Contains-push [] x))
contains_from (y ∷ xs) x (inr h) = Contains-append_right (y ∷ []) xs x (contains_from xs x h)

pub in_from : {A : Type 0} (xs : List A) (x : A) → Contains xs x → In x xs
in_from [] x h = absurd (let k = h.1 in omega arith)
in_from {A} (y ∷ xs) x h = go (Contains-append_cases (y ∷ []) xs x h) (in_from xs x)
  where
    head : Contains [] x ⊎ (y ≡ x) → In x (y ∷ xs)
    head (inl k) = absurd (let l = k.1 in omega arith)
    head (inr e) = inl (sym e)

    go : Contains (y ∷ []) x ⊎ Contains xs x → (Contains xs x → In x xs) → In x (y ∷ xs)
    go (inl k) ih = head (Contains-push_cases [] y x k)
    go (inr k) ih = inr (ih k)

-- ## sources

not_source : (o : Option (ℕ × Candidate)) (cs : List Candidate) (lack : Option Lack) → choice o cs lack ≡ Source → ⊥
not_source (Some c) cs lack h = grind arith
not_source None (a ∷ b ∷ rest) lack h = grind arith
not_source None (a ∷ []) lack h = grind arith
not_source None [] lack h = grind arith

pub source_chosen : (flow : Flow) (sources : Sources) (p : Path) → choose flow sources p ≡ Source → sources.is p ≡ true
source_chosen flow sources p h = go (sources.is p) h
  where
    go :
        (b : Bool) →
        elim b as (λ _. Choice) [
          | true ↦ Source
          | false ↦
              let vs = viable flow sources p in
              choice (leader flow (Rattle.std.specs.List.enumerate_from 0 vs)) vs (lack_of_first flow sources (candidates flow sources p))
        ] ≡ Source → b ≡ true
    go true h = refl
    go false h = absurd (not_source _ _ _ h)

pub source_file : (image : Image) (p : Path) → is_source image p ≡ true → (f : Content) × (file_at image p ≡ Some f)
source_file image p h = some_of (file_at image p) (and_left (is_file image p) _ (and_right (is_path_text p) _ h))

pub source_reads : (image : Image) (p : Path) (f : Content) → is_source image p ≡ true → file_at image p ≡ Some f → source_at image p ≡ Some f
source_reads image p f h e = ap (λ b. cond b (file_at image p) None) h ∙ e

pub source_stamp_but :
    (image : Image) (left_out : Path → Bool) (p : Path) (f : Content) → is_source image p ≡ true → file_at image p ≡ Some f →
    stamp_now_but image left_out p ≡ Some (content_stamp f)
source_stamp_but image left_out p f h e =
    ap (λ b. cond b (stamp_of (source_at image p)) (option_and_then (unmarked_stamp_but image left_out) (holder image p))) h
    ∙ ap stamp_of (source_reads image p f h e)

pub source_stamp : (image : Image) (p : Path) (f : Content) → is_source image p ≡ true → file_at image p ≡ Some f → stamp_now image p ≡ Some (content_stamp f)
source_stamp image p f h e =
    ap (λ b. cond b (stamp_of (source_at image p)) (option_and_then (unmarked_stamp image) (holder image p))) h ∙ ap stamp_of (source_reads image p f h e)

-- ## Chains

abbrev or_here : Option Path → Path
or_here None = []
or_here (Some h) = h

abbrev record_or : Record → Option Record → Record
record_or r None = r
record_or r (Some s) = s

-- a record speaks for a product among the inputs, with the recorded serial, and hangs together
pub record Spoken (image : Image) (e : Eased) (q : Path) (m : ℕ) : Type 0 where
  pub place : Path
  pub by : Record
  pub speaks : Speaks image e q place by
  pub serial : m ≡ by.made
  pub chain : Chain image e any_source by

pub chain_make : (image : Image) (e : Eased) (r : Record) → ((q : Path) (m : ℕ) → In (q, Made m) (stamped r) → Spoken image e q m) → Chain image e any_source r
chain_make image e r h =
    Link r (λ q m. or_here (holder image q)) (λ q m. record_or r (core_at image (or_here (holder image q)))) (λ q s i k. tt)
    (λ q m i. let s = h q m i in
    let place = found q s.place s.speaks.holder in
    let same = read q s.place s.by place s.speaks.clear.0 in (
      subst (λ (w : Path × Record). Speaks image e q w.0 w.1) (λ i. (place i, same i)) s.speaks,
      subst (λ (w : Record). agrees (Made m) (made_stamp (Some w)) ≡ true) same (eq-eqb m s.by.made s.serial),
    ))
    (λ q m i. let s = h q m i in
    subst (Chain image e any_source) (read q s.place s.by (found q s.place s.speaks.holder) s.speaks.clear.0) s.chain)
  where
    found : (q p : Path) → holder image q ≡ Some p → p ≡ or_here (holder image q)
    found q p f = sym (ap or_here f)

    read : (q p : Path) (s : Record) → p ≡ or_here (holder image q) → core_at image p ≡ Some s → s ≡ record_or r (core_at image (or_here (holder image q)))
    read q p s f g = sym (ap (record_or r) g) ∙ ap (λ w. record_or r (core_at image w)) f

module _
    (flow : Flow) (act : Act) (has_fields : Job → Bool) (image : Image) (H : Versions) (settings : Settings) (progress : Progress)
    (plan : Plan)
    (fills : BoundFills) (rest : Rested flow act has_fields image H settings progress plan) where
  abbrev pub Made_by : Candidate → Path → Path → Record → Type 0
  Made_by c q h r = Product flow act has_fields image H settings progress plan c q h r

  abbrev pub IsQuiet : Candidate → Type 0
  IsQuiet c = Quiet flow act has_fields image H settings progress plan c

  abbrev pub Comes : ℕ → Path → Type 0
  Comes n p = ReachedHere flow act has_fields image H settings progress plan n p

  -- the marks of running Restores are left out
  abbrev pub E : Eased
  E = eased_by image (restored flow act has_fields image H settings progress plan)

  -- the record at an output whose mark doesn't count
  cleared : (h : Path) (r : Record) → core_at image h ≡ Some r → is_marked_but image (restored flow act has_fields image H settings progress plan) h ≡ false → Clear image E h r
  cleared h r reads counted = (reads, go (image.marked h) refl (restored flow act has_fields image H settings progress plan h) refl counted)
    where
      go : (m : Bool) → image.marked h ≡ m → (b : Bool) → restored flow act has_fields image H settings progress plan h ≡ b → (m && not b) ≡ false → (image.marked h ≡ false) ⊎ E h r
      go false x b y z = inl x
      go true x true y z = inr (y, reads)
      go true x false y z = absurd (true≢false z)

  -- what is ready isn't being restored, so that its mark counts
  unmarked_now :
      (n : ℕ) (q : Path) (c : Candidate) (h : Path) → Comes n q → choose flow (sources_of image) q ≡ Make c → IsTrue (is_ready image settings progress plan q) →
      In h (out_paths (recipe flow plan.lists c)) → is_marked_but image (restored flow act has_fields image H settings progress plan) h ≡ false → image.marked h ≡ false
  unmarked_now n q c h comes made ready out counted =
      go (image.marked h) (restored flow act has_fields image H settings progress plan h)
      (not_restored flow act has_fields image H settings progress plan fills rest.planned n q c h comes made ready out) counted
    where
      go : (m b : Bool) → b ≡ false → (m && not b) ≡ false → m ≡ false
      go m true x y = absurd (true≢false x)
      go true false x y = absurd (true≢false y)
      go false false x y = refl

  abbrev pub S : Setting
  S = setting_of flow act has_fields image

  abbrev pub all_walked : List Candidate
  all_walked = flat_map (walk flow (sources_of image) plan.lists 200) settings.targets

  pub input_here :
      (n : ℕ) (p : Path) (c : Candidate) (h : Path) (r : Record) (q : Path) (s : Stamp) →
      Comes (suc n) p → Made_by c p h r → In (q, s) (stamped r) → In q (in_paths (recipe flow plan.lists c)) × Comes n q
  input_here n p c h r q s reached made k =
      let inn = subst (λ rec. In q (in_paths rec)) made.same (zip_first (in_paths r.recipe) r.stamps q s k) in
      (inn, reached_step flow (sources_of image) plan.lists all_walked n p c q reached made.chosen (inputs_wanted flow c plan.lists q inn))

  abbrev ChainedBefore : ℕ → Type 0
  ChainedBefore n = (q : Path) (c : Candidate) (h : Path) (r : Record) → Comes n q → Made_by c q h r → IsQuiet c → Chain image E any_source (core r)

  spoken_input :
      (n : ℕ) → ChainedBefore n → (p : Path) (c : Candidate) (h : Path) (r : Record) →
      Comes (suc n) p → Made_by c p h r → IsQuiet c → (q : Path) (m : ℕ) → In (q, Made m) (stamped r) → Spoken image E q m
  spoken_input n ih p c h r reached made quiet q s k =
      let here = input_here n p c h r q (Made s) reached made k in
      go here.0 here.1 (choice_known flow (sources_of image) plan.lists n q here.1.calm)
    where
      go : In q (in_paths (recipe flow plan.lists c)) → Comes n q → (choose flow (sources_of image) q ≡ Source) ⊎ ((d : Candidate) × (choose flow (sources_of image) q ≡ Make d)) → Spoken image E q s
      go inn comes (inl e) =
          let is = source_chosen flow (sources_of image) q e in
          let f = source_file image q is in
          absurd (made_source s f.0 (made.agrees q (Made s) (content_stamp f.0) k (source_stamp_but image (restored flow act has_fields image H settings progress plan) q f.0 is f.1)))
      go inn comes (inr d) =
          let calm = quiet_input flow act has_fields image H settings progress plan fills rest.planned n p c q d.0 reached made.chosen quiet inn d.1 in
          let from = quiet_product flow act has_fields image H settings progress plan fills rest.planned n q d.0 comes d.1 calm in
          let product = from.2 in
          record {
            place = from.0;
            by = core from.1;
            speaks = record {
              no_source = (chosen_viable flow (sources_of image) q d.0 d.1).1;
              holder = product.holds;
              clear = cleared from.0 (core from.1) (core_reads image from.0 from.1 product.reads) product.unmarked;
            };
            serial = serial_same s from.1.made (made.agrees q (Made s) (Made from.1.made) k product.stamp);
            chain = ih q d.0 from.0 from.1 comes product calm;
          }

  pub chained_at : (n : ℕ) → ChainedBefore n
  chained_at zero q c h r reached made quiet = absurd (reached_zero flow (sources_of image) plan.lists all_walked q c reached made.chosen)
  chained_at (suc n) q c h r reached made quiet = chain_make image E (core r) (spoken_input n (chained_at n) q c h r reached made quiet)

  -- ## Vir is Mean

  abbrev Meant : ℕ → Type 0
  Meant n =
      (q : Path) (c : Candidate) (h : Path) (r : Record) → Comes n q → Made_by c q h r → IsQuiet c →
      (k : ℕ) (t x : Tree) → vir image act H k h ≡ Some t → part_at h q t ≡ Some x → mean S n q ≡ Some x

  source_means : (n : ℕ) (q : Path) (f : Content) → is_source image q ≡ true → file_at image q ≡ Some f → mean S n q ≡ Some (File f.bytes)
  source_means n q f is e =
      mean_source S n q is ∙ ap (λ o. option_map File (option_map (λ (f : Content). f.bytes) o)) (source_reads image q f is e)

  product_value :
      (k : ℕ) (q h : Path) (m : ℕ) (x : Tree) → holder image q ≡ Some h →
      input_value image H (vir image act H k) (q, Made m) ≡ Some x → (t : Tree) × (vir image act H k h ≡ Some t) × (part_at h q t ≡ Some x)
  product_value k q h m x holds v =
      go (agrees (Made m) (made_stamp (core_at image h))) (sym (ap by_holder holds) ∙ v)
    where
      by_holder : Option Path → Option Tree
      by_holder o = option_and_then (λ h. cond (agrees (Made m) (made_stamp (core_at image h))) (option_and_then (part_at h q) (vir image act H k h)) None) o

      inner : (o : Option Tree) → option_and_then (part_at h q) o ≡ Some x → (t : Tree) × (o ≡ Some t) × (part_at h q t ≡ Some x)
      inner None e = absurd (none_some None x refl e)
      inner (Some t) e = (t, refl, e)

      go : (b : Bool) → cond b (option_and_then (part_at h q) (vir image act H k h)) None ≡ Some x → (t : Tree) × (vir image act H k h ≡ Some t) × (part_at h q t ≡ Some x)
      go true e = inner (vir image act H k h) e
      go false e = absurd (none_some None x refl e)

  pub input_means :
      (n : ℕ) → Meant n → (k : ℕ) (p : Path) (c : Candidate) (h : Path) (r : Record) →
      Comes (suc n) p → Made_by c p h r → IsQuiet c →
      (q : Path) (s : Stamp) (x : Tree) → In (q, s) (stamped r) → input_value image H (vir image act H k) (q, s) ≡ Some x → mean S n q ≡ Some x
  input_means n ih k p c h r reached made quiet q s x inn v =
      let here = input_here n p c h r q s reached made inn in
      go here.0 here.1 (choice_known flow (sources_of image) plan.lists n q here.1.calm)
    where
      go : In q (in_paths (recipe flow plan.lists c)) → Comes n q → (choose flow (sources_of image) q ≡ Source) ⊎ ((d : Candidate) × (choose flow (sources_of image) q ≡ Make d)) → mean S n q ≡ Some x
      go i comes (inl e) =
          let is = source_chosen flow (sources_of image) q e in
          let f = source_file image q is in
          let now = rest.sound.has_sources q f.0 (source_reads image q f.0 is f.1) in
          let same = made.agrees q s (content_stamp f.0) inn (source_stamp_but image (restored flow act has_fields image H settings progress plan) q f.0 is f.1) in
          let has = rest.sound.has_recorded h (core r) q s (cleared h (core r) (core_reads image h r made.reads) made.unmarked) inn in
          let then = agreeing H rest.differ q s f.0 now has same in
          source_means n q f.0 is f.1 ∙ sym (source_value image H (vir image act H k) q s then.0 f.0.bytes then.1 then.2) ∙ v
      go i comes (inr d) =
          let calm = quiet_input flow act has_fields image H settings progress plan fills rest.planned n p c q d.0 reached made.chosen quiet i d.1 in
          let from = quiet_product flow act has_fields image H settings progress plan fills rest.planned n q d.0 comes d.1 calm in
          let product = from.2 in
          let same = is_serial s from.1.made (made.agrees q s (Made from.1.made) inn product.stamp) in
          let had = subst (λ s. input_value image H (vir image act H k) (q, s) ≡ Some x) same v in
          let t = product_value k q from.0 from.1.made x product.holds had in
          ih q d.0 from.0 from.1 comes product calm k t.0 x t.1 t.2

  -- what a whole product of a quiet job has
  ready_value :
      (n : ℕ) (q : Path) (c : Candidate) (h : Path) (r : Record) → Comes n q → Made_by c q h r → IsQuiet c →
      IsTrue (is_ready image settings progress plan q) →
      (t x : Tree) × (tree_now image q ≡ Some x) × (Vir image act H h ≡ Some t) × (part_at h q t ≡ Some x)
  ready_value n q c h r comes made quiet ready =
      let w = ready_whole flow act has_fields image H settings progress plan fills rest.planned n q c h r comes made ready in
      let v = rest.sound.holds h (core r) (core_reads image h r made.reads) (unmarked_now n q c h comes made.chosen ready made.is_output made.unmarked) (chained_at n q c h r comes made quiet) w.0 in
      let x = w.1 v.0 v.1 in (v.0, x.0, x.1, v.2, x.2)

  pub folder_means :
      (n : ℕ) → Meant n → (p : Path) (c : Candidate) →
      Comes (suc n) p → choose flow (sources_of image) p ≡ Make c → IsQuiet c →
      (f : Path) → In f (gathered_folders flow c) → (t : Tree) × (mean S n f ≡ Some t) × (files_of t ≡ or_none (listing plan.lists f))
  folder_means n ih p c reached e quiet f inn =
      let comes = reached_step flow (sources_of image) plan.lists all_walked n p c f reached e (folders_wanted flow c plan.lists f inn) in
      go comes (choice_known flow (sources_of image) plan.lists n f comes.calm)
    where
      right : (files : List Path) → listing plan.lists f ≡ Some files → IsRight S image f files
      right files k =
          rest.lists (job flow plan.lists c) f files (in_plan flow act has_fields image H settings progress plan fills rest.planned n p c reached e) quiet.shut inn k

      source_files : is_source image f ≡ true → (g : Content) → mean S n f ≡ Some (File g.bytes) → (o : Option (List Path)) → listing plan.lists f ≡ o → [] ≡ or_none o
      source_files is g m None k = refl
      source_files is g m (Some files) k = sym (pick (right files k))
        where
          pick : IsRight S image f files → files ≡ []
          pick (inl s) = s ∙ source_listed flow act has_fields image H settings progress plan fills rest.planned f is
          pick (inr v) = v.2 ∙ ap files_of (mean_one S 200 n f v.0 (File g.bytes) v.1 m)

      go : Comes n f → (choose flow (sources_of image) f ≡ Source) ⊎ ((d : Candidate) × (choose flow (sources_of image) f ≡ Make d)) → (t : Tree) × (mean S n f ≡ Some t) × (files_of t ≡ or_none (listing plan.lists f))
      go comes (inl s) =
          let is = source_chosen flow (sources_of image) f s in
          let g = source_file image f is in
          let m = source_means n f g.0 is g.1 in
          (File g.0.bytes, m, source_files is g.0 m (listing plan.lists f) refl)
      go comes (inr d) =
          let calm = quiet_folder flow act has_fields image H settings progress plan fills rest.planned n p c f d.0 reached e quiet inn d.1 in
          let from = quiet_product flow act has_fields image H settings progress plan fills rest.planned n f d.0 comes d.1 calm.0 in
          let v = ready_value n f d.0 from.0 from.1 comes from.2 calm.0 calm.1 in
          let m = ih f d.0 from.0 from.1 comes from.2 calm.0 (suc (made_at (core_at image from.0))) v.0 v.1 v.3 v.4 in
          let there = listed flow act has_fields image H settings progress plan fills rest.planned n f d.0 from.0 from.1 v.1 comes from.2 calm.1 v.2 in
          let k = known flow act has_fields image H settings progress plan fills rest.planned c f quiet inn calm.1 in
          (v.1, m, pick v.1 m there k.0 (right k.0 k.1) ∙ sym (ap or_none k.1))
        where
          pick : (t : Tree) → mean S n f ≡ Some t → files_of t ≡ files_listed image f → (files : List Path) → IsRight S image f files → files_of t ≡ files
          pick t m there files (inl s) = there ∙ sym s
          pick t m there files (inr v) = ap files_of (mean_one S n 200 f t v.0 m v.1) ∙ sym v.2

  mean_step :
      (n : ℕ) → Meant n → (q : Path) (c : Candidate) (h : Path) (r : Record) → Comes (suc n) q → Made_by c q h r → IsQuiet c →
      (k : ℕ) (t x : Tree) → vir image act H (suc k) h ≡ Some t → part_at h q t ≡ Some x → mean S (suc n) q ≡ Some x
  mean_step n ih q c h r reached made quiet k t x v part =
      let e = sym (vir_make image act H k h (core r) (core_reads image h r made.reads)) ∙ v in
      let given = value_given act r.recipe h (all_of (map (input_value image H (vir image act H k)) (stamped r))) t e in
      let ins =
      inputs_same (input_value image H (vir image act H k)) (mean S n) (in_paths r.recipe) r.stamps (each_stamped r (rest.planned.valid h r made.reads).1)
      (λ p s y i w. input_means n ih k q c h r reached made quiet p s y i w) given.0 given.1 in
      let value = made.part (Some given.0) t x (sym (ap (value_at act r.recipe h) given.1) ∙ e) part in
      let known = listings_agree (mean S n) plan.lists (gathered_folders flow c) (λ f i. folder_means n ih q c reached made.chosen quiet f i) in
      let M = listings_of (gathered_folders flow c) known.0 in
      let recipes = recipe_same flow c plan.lists M known.2 in
      let jobs = job_same flow c plan.lists M known.2 in
      let wanted = wants_same flow c plan.lists M known.2 in
      mean_make S n q c known.0 made.chosen known.1 (runs M jobs wanted)
      ∙ ap (λ r. value_at act r q (all_of (map (mean S n) (in_paths r)))) (sym recipes ∙ sym made.same)
      ∙ ap (value_at act r.recipe q) ins ∙ value
    where
      runs : (M : Listings) → job flow plan.lists c ≡ job flow M c → wants flow plan.lists c ≡ wants flow M c → is_runnable S c M ≡ true
      runs M jobs wanted =
          and_both (is_some c.part.command) _ (has_command flow (sources_of image) plan.lists (suc n) q c reached.calm made.chosen)
          (and_both (has_fields (job flow M c)) (list_all is_path (wants flow M c))
          (ap has_fields (sym jobs)
          ∙ rest.fields (job flow plan.lists c) (contains_from plan.jobs (job flow plan.lists c) (in_plan flow act has_fields image H settings progress plan fills rest.planned n q c reached made.chosen)) quiet.shut)
          (subst (λ ws. list_all is_path ws ≡ true) wanted
          (all_from is_path (wants flow plan.lists c) (λ w i. want_path flow (sources_of image) plan.lists (suc n) q c w reached.calm made.chosen i))))

  -- what a product of a quiet job has by the records, it means
  pub meant : (n : ℕ) → Meant n
  meant zero q c h r reached made quiet k t x v part = absurd (reached_zero flow (sources_of image) plan.lists all_walked q c reached made.chosen)
  meant (suc n) q c h r reached made quiet zero t x v part = absurd (none_some None t refl v)
  meant (suc n) q c h r reached made quiet (suc k) t x v part = mean_step n (meant n) q c h r reached made quiet k t x v part

  abbrev pub Cleans : ℕ → Path → Type 0
  Cleans n p = (tree : Tree) × (tree_now image p ≡ Some tree) × (mean S n p ≡ Some tree)

  pub source_clean : (n : ℕ) (p : Path) → is_source image p ≡ true → Cleans n p
  source_clean n p is = let f = source_file image p is in (File f.0.bytes, file_tree image p f.0 f.1, source_means n p f.0 is f.1)

  pub ready_clean : (n : ℕ) (p : Path) → Comes (suc n) p → IsTrue (is_ready image settings progress plan p) → Cleans (suc n) p
  ready_clean n p comes ready = go (choice_known flow (sources_of image) plan.lists (suc n) p comes.calm)
    where
      go : (choose flow (sources_of image) p ≡ Source) ⊎ ((d : Candidate) × (choose flow (sources_of image) p ≡ Make d)) → Cleans (suc n) p
      go (inl s) = source_clean (suc n) p (source_chosen flow (sources_of image) p s)
      go (inr d) =
          let quiet = ready_quiet flow act has_fields image H settings progress plan fills rest.planned n p d.0 comes d.1 ready in
          let from = quiet_product flow act has_fields image H settings progress plan fills rest.planned (suc n) p d.0 comes d.1 quiet in
          let v = ready_value (suc n) p d.0 from.0 from.1 comes from.2 quiet ready in
          (v.1, v.2, meant (suc n) p d.0 from.0 from.1 comes from.2 quiet (suc (made_at (core_at image from.0))) v.0 v.1 v.3 v.4)

  -- no files are listed of a source, and it means a file
  pub source_lists : (n : ℕ) (p : Path) → is_source image p ≡ true → (t : Tree) × (mean S n p ≡ Some t) × (files_listed image p ≡ files_of t)
  source_lists n p is =
      let f = source_file image p is in
      (File f.0.bytes, source_means n p f.0 is f.1, source_listed flow act has_fields image H settings progress plan fills rest.planned p is)

  -- the record of what is ready lists the files of what it means
  pub ready_listed :
      (n : ℕ) (p : Path) → Comes (suc n) p → IsTrue (is_ready image settings progress plan p) →
      (t : Tree) × (mean S (suc n) p ≡ Some t) × (files_listed image p ≡ files_of t)
  ready_listed n p comes ready = go (choice_known flow (sources_of image) plan.lists (suc n) p comes.calm)
    where
      go : (choose flow (sources_of image) p ≡ Source) ⊎ ((d : Candidate) × (choose flow (sources_of image) p ≡ Make d)) → (t : Tree) × (mean S (suc n) p ≡ Some t) × (files_listed image p ≡ files_of t)
      go (inl s) = source_lists (suc n) p (source_chosen flow (sources_of image) p s)
      go (inr d) =
          let quiet = ready_quiet flow act has_fields image H settings progress plan fills rest.planned n p d.0 comes d.1 ready in
          let from = quiet_product flow act has_fields image H settings progress plan fills rest.planned (suc n) p d.0 comes d.1 quiet in
          let v = ready_value (suc n) p d.0 from.0 from.1 comes from.2 quiet ready in (
            v.1,
            meant (suc n) p d.0 from.0 from.1 comes from.2 quiet (suc (made_at (core_at image from.0))) v.0 v.1 v.3 v.4,
            sym (listed flow act has_fields image H settings progress plan fills rest.planned (suc n) p d.0 from.0 from.1 v.1 comes from.2 ready v.2),
          )

  pub current_clean : (p : Path) → Contains settings.targets p → IsTrue (is_current image settings progress plan p) → Cleans 200 p
  current_clean p inn current = go (or_cases (is_source image p) (is_ready image settings progress plan p) current)
    where
      go : (is_source image p ≡ true) ⊎ (is_ready image settings progress plan p ≡ true) → Cleans 200 p
      go (inl is) = source_clean 200 p is
      go (inr ready) = ready_clean 199 p (target_reached flow act has_fields image H settings progress plan fills rest.planned p (in_from settings.targets p inn)) ready
