-- What stands at an output of a Clean job, be it the one that is chosen for this path or not: what its command makes there of clean values.
use Rattle.std.proofs.Common.{◌≡◌, ◌⊎◌, inl, inr, ℕ, suc, ◌≤◌, Bool, true, false, ◌&&◌, cond, List, [], ◌∷◌, map, find, flat_map, zip, refl, sym, ap, subst, ◌∙◌, Option, Some, None, option_map, option_and_then, is_some, true≢false}
use Rattle.std.specs.Prelude.{not}
use Rattle.std.specs.List.{list_all}
use Rattle.smk_base.specs.Path.{is_path, is_under}
use Rattle.smk_base.specs.declared.tree.Tree.{Tree}
use Rattle.smk_base.specs.declared.tree.Tree.TheVariants.{File, Folder}
use Rattle.smk_world.specs.declared.recipe.Kind.TheVariants.{Plain, Folder as FolderKind}
use Rattle.smk_world.specs.declared.recipe.Recipe.{Recipe}
use Rattle.smk_world.specs.World.{in_paths, out_paths}
use Rattle.smk_world.specs.Trees.{Act, IsIn, Path, all_of, among, files_of, folder_over, folders_of, kind_in, part_at, value_at}
use Rattle.smk_record.specs.declared.record.Record.{Record}
use Rattle.smk_record.specs.declared.record.Stamp.{Stamp}
use Rattle.smk_record.specs.declared.record.Stamp.TheVariants.{Made}
use Rattle.smk_record.specs.Records.{agree, agrees, core, members_of, stamped}
use Rattle.smk_pattern.specs.Bound.{BoundFills}
use Rattle.smk_pattern.proofs.Names.{numbered_all}
use Rattle.smk_flow.specs.declared.job.Job.{Job}
use Rattle.smk_flow.specs.Flows.{Candidate, Flow, gathered_folders}
use Rattle.smk_choose.specs.Choose.{Make, Source, Sources, choose}
use Rattle.smk_store.specs.Images.{Content, Image, content_of, core_at, file_at, is_folder, is_source, is_whole, members_under, names_under, record_at, tree_now}
use Rattle.smk_store.specs.Trust.{Chain, Clear, Eased, Versions, Vir, any_source, content_stamp, holder, input_value, is_marked_but, made_at, made_stamp, stamp_now_but, vir}
use Rattle.smk_store.proofs.Versions.{agreeing, is_serial, made_source, serial_same, source_value}
use Rattle.smk_chain.specs.Derive.{Listings, job, recipe, sources_of, walk, wants}
use Rattle.smk_chain.specs.Mean.{Setting, is_runnable, listings_of, mean, setting_of}
use Rattle.smk_trigger.specs.declared.reason.State.{State}
use Rattle.smk_trigger.specs.declared.reason.State.TheVariants.{Clean, Dirty, Open, Restore}
use Rattle.smk_trigger.specs.JobStates.{is_clean, is_dirty, is_open, is_restore}
use Rattle.smk_trigger.specs.Reasons.{once}
use Rattle.smk_pick.specs.declared.settings.Settings.{Settings}
use Rattle.smk_plan.specs.States.{Plan, Progress, by_table, files_listed, is_ready, is_restored, is_whole_by, kept_state, makes, stands_whole, state_of, test_some, while_running}
use Rattle.smk_laws_plan.specs.Current.{eased_by}
use Rattle.smk_laws_plan.proofs.CurrentApart.{JobsApart, maker_found}
use Rattle.smk_laws_plan.proofs.CurrentChosen.{chosen_viable}
use Rattle.smk_laws_plan.proofs.CurrentDepths.{mean_deeper}
use Rattle.smk_laws_plan.proofs.CurrentFills.{bound_fills_from}
use Rattle.smk_laws_plan.proofs.CurrentLists.{all_from, and_both, and_left, and_right, any_in, any_none, append_nil_left, in_map, none_some, or_first, some_inj, filter_in, zip_first}
use Rattle.smk_laws_plan.proofs.CurrentMeaning.{Spoken, chain_make, contains_from, folder_means, chained_at, meant, source_chosen, source_file, source_reads, source_stamp_but}
use Rattle.smk_laws_plan.proofs.CurrentPaths.{among_in, in_among}
use Rattle.smk_laws_plan.proofs.CurrentProducts as products
use Rattle.smk_laws_plan.proofs.CurrentProducts.{Planned, Quiet, Rested, core_reads, each_stamped}
use Rattle.smk_laws_plan.proofs.CurrentReach.{Reached, choice_known, has_command, reached_step, want_path}
use Rattle.smk_laws_plan.proofs.CurrentRecipes.{inputs_wanted, job_same, recipe_same, wants_same}
use Rattle.smk_laws_plan.proofs.CurrentSame.{held_agrees, in_once_of, kept_record, own_calm}
use Rattle.smk_laws_plan.proofs.CurrentTrees.{entries, listed_under, members_same, names_of}
use Rattle.smk_laws_plan.proofs.CurrentValues.{all_make, all_parts, gathers_by, inputs_same, listings_agree, mean_source, runs, value_given, vir_make}
use Rattle.smk_laws_plan.proofs.PlanOne.{derived_apart, pair_first}
use Rattle.smk_laws_complete.specs.Listed.{made}

-- ## At every depth the same

all_up :
    (F G : Path → Option Tree) → ((p : Path) (t : Tree) → F p ≡ Some t → G p ≡ Some t) → (ps : List Path) (ts : List Tree) →
    all_of (map F ps) ≡ Some ts → all_of (map G ps) ≡ Some ts
all_up F G up [] ts h = h
all_up F G up (p ∷ ps) ts h =
    let r = all_parts (F p) (map F ps) ts h in all_make (G p) (map G ps) r.0 r.1 (up p r.0 r.2) (all_up F G up ps r.1 r.3) ∙ ap Some (sym r.4)

module _ (S : Setting) (n m : ℕ) (up : n ≤ m) (c : Candidate) (p : Path) (t : Tree) where
  higher : (q : Path) (x : Tree) → mean S n q ≡ Some x → mean S m q ≡ Some x
  higher q x h = mean_deeper S n m q x up h

  run_up :
      (trees : List Tree) (b : Bool) →
      runs S n p c (listings_of (gathered_folders S.flow c) trees) b ≡ Some t → runs S m p c (listings_of (gathered_folders S.flow c) trees) b ≡ Some t
  run_up trees false h = h
  run_up trees true h =
      let r = recipe S.flow (listings_of (gathered_folders S.flow c) trees) c in
      let given = value_given S.act r p (all_of (map (mean S n) (in_paths r))) t h in
      ap (value_at S.act r p) (all_up (mean S n) (mean S m) higher (in_paths r) given.0 given.1) ∙ (sym (ap (value_at S.act r p) given.1) ∙ h)

  gather_up :
      (x : Option (List Tree)) → all_of (map (mean S n) (gathered_folders S.flow c)) ≡ x → gathers_by S n p c x ≡ Some t →
      gathers_by S m p c (all_of (map (mean S m) (gathered_folders S.flow c))) ≡ Some t
  gather_up None e h = absurd (none_some None t refl h)
  gather_up (Some trees) e h =
      ap (gathers_by S m p c) (all_up (mean S n) (mean S m) higher (gathered_folders S.flow c) trees e)
      ∙ run_up trees (is_runnable S c (listings_of (gathered_folders S.flow c) trees)) h

  pub made_deeper : made S n c p ≡ Some t → made S m c p ≡ Some t
  made_deeper h = gather_up (all_of (map (mean S n) (gathered_folders S.flow c))) refl h

-- ## Small facts

clean_quiet : (s : State) → is_clean s ≡ true → (is_open s ≡ false) × (is_dirty s ≡ false)
clean_quiet Open h = absurd (true≢false (sym h))
clean_quiet (Dirty rs) h = absurd (true≢false (sym h))
clean_quiet Restore h = absurd (true≢false (sym h))
clean_quiet Clean h = (refl, refl)

-- a job that is Clean doesn't run as a Restore
idle : (o : Option State) (s : State) → is_clean (while_running o s) ≡ true → test_some is_restore o ≡ true → ⊥
idle None s k h = true≢false (sym h)
idle (Some Open) s k h = true≢false (sym h)
idle (Some (Dirty rs)) s k h = true≢false (sym h)
idle (Some Clean) s k h = true≢false (sym h)
idle (Some Restore) Open k h = true≢false (sym k)
idle (Some Restore) (Dirty rs) k h = true≢false (sym k)
idle (Some Restore) Restore k h = true≢false (sym k)
idle (Some Restore) Clean k h = true≢false (sym k)

uncounted : (m b : Bool) → b ≡ false → (m && not b) ≡ false → m ≡ false
uncounted m true x y = absurd (true≢false x)
uncounted true false x y = absurd (true≢false y)
uncounted false false x y = refl

false_by : (b : Bool) → (b ≡ true → ⊥) → b ≡ false
false_by true h = absurd (h refl)
false_by false h = refl

-- ## One output

module _
    (flow : Flow) (act : Act) (has_fields : Job → Bool) (image : Image) (H : Versions) (settings : Settings) (progress : Progress) (plan : Plan)
    (rest : Rested flow act has_fields image H settings progress plan) where
  abbrev fills : BoundFills
  fills = bound_fills_from numbered_all

  abbrev planned : Planned flow image settings progress plan
  planned = rest.planned

  abbrev srcs : Sources
  srcs = sources_of image

  abbrev L : Listings
  L = plan.lists

  abbrev S : Setting
  S = setting_of flow act has_fields image

  abbrev jb : Candidate → Job
  jb c = job flow L c

  abbrev states : Job → State
  states j = state_of image settings progress plan j

  abbrev restored : Path → Bool
  restored p = is_restored image settings progress plan p

  abbrev E : Eased
  E = eased_by image restored

  abbrev IsQuiet : Candidate → Type 0
  IsQuiet c = Quiet flow act has_fields image H settings progress plan c

  abbrev Comes : ℕ → Path → Type 0
  Comes n p = Reached flow srcs L (flat_map (walk flow srcs L 200) settings.targets) n p

  apart : JobsApart plan.jobs
  apart = derived_apart flow image L settings.targets plan.jobs planned.complete planned.derived.derived

  -- the record at an output whose mark doesn't count
  cleared : (h : Path) (r : Record) → core_at image h ≡ Some r → is_marked_but image restored h ≡ false → Clear image E h r
  cleared h r reads counted = (reads, go (image.marked h) refl (restored h) refl counted)
    where
      go : (m : Bool) → image.marked h ≡ m → (b : Bool) → restored h ≡ b → (m && not b) ≡ false → (image.marked h ≡ false) ⊎ E h r
      go false x b y z = inl x
      go true x true y z = inr (y, reads)
      go true x false y z = absurd (true≢false z)

  source_means : (n : ℕ) (q : Path) (f : Content) → is_source image q ≡ true → file_at image q ≡ Some f → mean S n q ≡ Some (File f.bytes)
  source_means n q f is e =
      mean_source S n q is ∙ ap (λ o. option_map File (option_map (λ (f : Content). f.bytes) o)) (source_reads image q f is e)

  product_value :
      (k : ℕ) (q h : Path) (m : ℕ) (x : Tree) → holder image q ≡ Some h →
      input_value image H (vir image act H k) (q, Made m) ≡ Some x → (t : Tree) × (vir image act H k h ≡ Some t) × (part_at h q t ≡ Some x)
  product_value k q h m x holds v = go (agrees (Made m) (made_stamp (core_at image h))) (sym (ap by_holder holds) ∙ v)
    where
      by_holder : Option Path → Option Tree
      by_holder o = option_and_then (λ h. cond (agrees (Made m) (made_stamp (core_at image h))) (option_and_then (part_at h q) (vir image act H k h)) None) o

      inner : (o : Option Tree) → option_and_then (part_at h q) o ≡ Some x → (t : Tree) × (o ≡ Some t) × (part_at h q t ≡ Some x)
      inner None e = absurd (none_some None x refl e)
      inner (Some t) e = (t, refl, e)

      go :
          (b : Bool) → cond b (option_and_then (part_at h q) (vir image act H k h)) None ≡ Some x →
          (t : Tree) × (vir image act H k h ≡ Some t) × (part_at h q t ≡ Some x)
      go true e = inner (vir image act H k h) e
      go false e = absurd (none_some None x refl e)

  -- the record at an output of a quiet job
  record IsRecorded (c : Candidate) (h : Path) : Type 0 where
    r : Record
    reads : record_at image h ≡ Some r
    same : r.recipe ≡ recipe flow L c
    unmarked : is_marked_but image restored h ≡ false
    steady : (p : Path) (s now : Stamp) → IsIn (stamped r) (p, s) → stamp_now_but image restored p ≡ Some now → agree s now ≡ true

  recorded : (c : Candidate) (h : Path) → IsQuiet c → IsIn (out_paths (recipe flow L c)) h → IsRecorded c h
  recorded c h quiet i =
      let calm =
      own_calm (recipe flow L c) (map image.kept (out_paths (recipe flow L c))) (map (is_marked_but image restored) (out_paths (recipe flow L c)))
      (map (λ q. (q, stamp_now_but image restored q)) (in_paths (recipe flow L c))) (append_nil_left _ _ quiet.calm) in
      let r = kept_record image (out_paths (recipe flow L c)) h calm.present calm.readable i in
      let a =
      held_agrees (recipe flow L c) (map image.kept (out_paths (recipe flow L c))) (map (is_marked_but image restored) (out_paths (recipe flow L c)))
      (map (λ q. (q, stamp_now_but image restored q)) (in_paths (recipe flow L c))) calm r.0 r.2 in
      record {
        r = r.0;
        reads = r.1;
        same = a.same;
        unmarked = any_none (λ b. b) (map (is_marked_but image restored) (out_paths (recipe flow L c))) (is_marked_but image restored h) calm.unmarked
            (in_map (is_marked_but image restored) (out_paths (recipe flow L c)) h i);
        steady = λ p s now k e. a.steady p s now
            (subst (λ o. IsIn (once (map (λ q. (q, stamp_now_but image restored q)) (in_paths (recipe flow L c)))) (p, o)) e
            (in_once_of (stamp_now_but image restored) (in_paths (recipe flow L c)) p
            (subst (λ (rec : Recipe). IsIn (in_paths rec) p) a.same (zip_first (in_paths r.0.recipe) r.0.stamps p s k))))
            k;
      }

  -- The walk comes to a path of this job, which makes another one besides that is ready.
  module _ (m : ℕ) (p : Path) (c : Candidate) (comes : Comes (suc m) p) (chosen : choose flow srcs p ≡ Make c) (f : Path)
      (out : IsIn (out_paths (recipe flow L c)) f) (ready : is_ready image settings progress plan f ≡ true) where
    here : IsIn plan.jobs (jb c)
    here = products.in_plan flow act has_fields image H settings progress plan fills planned m p c comes chosen

    makes_it : (j : Job) → IsIn (out_paths j.recipe) f → makes j f ≡ true
    makes_it j i = or_first (among (out_paths j.recipe) f) (is_some (folder_over j.recipe f)) (in_among (out_paths j.recipe) f i)

    found :
        (j : Job) → IsIn plan.jobs j → IsIn (out_paths j.recipe) f →
        find (λ (e : Job × State). makes e.0 f) (zip plan.jobs (map states plan.jobs)) ≡ Some (j, states j)
    found j ij i = maker_found states plan.jobs j f apart ij (makes_it j i)

    both : (is_clean (states (jb c)) && stands_whole image f (jb c)) ≡ true
    both =
        sym
        (ap (test_some (λ (e : Job × State). is_clean e.1 && stands_whole image f e.0))
        (ap (λ ss. find (λ (e : Job × State). makes e.0 f) (zip plan.jobs ss)) planned.derived.states ∙ found (jb c) here out))
        ∙ ready

    clean : is_clean (states (jb c)) ≡ true
    clean = and_left (is_clean (states (jb c))) (stands_whole image f (jb c)) both

    quiet : IsQuiet c
    quiet =
        let s = clean_quiet (states (jb c)) clean in
        products.quiet_by flow act has_fields image H settings progress plan fills planned c s.0 s.1

    alone : folder_over (recipe flow L c) f ≡ None
    alone =
        products.output_alone flow act has_fields image H settings progress plan fills planned c f
        (products.own_outputs flow act has_fields image H settings progress plan fills planned (suc m) p c comes chosen) out

    whole : is_whole image f (kind_in (recipe flow L c) f) ≡ true
    whole =
        sym (ap (is_whole_by image f (kind_in (jb c).recipe f)) alone) ∙ and_right (is_clean (states (jb c))) (stands_whole image f (jb c)) both

    unrestored : restored f ≡ false
    unrestored = false_by (restored f) (λ h. by h)
      where
        by : restored f ≡ true → ⊥
        by h =
            let j = any_in (λ j. test_some is_restore (kept_state image settings progress plan j) && among (out_paths j.recipe) f) plan.jobs h in
            let i = among_in (out_paths (j.0).recipe) f (and_right _ (among (out_paths (j.0).recipe) f) j.2) in
            let same : j.0 ≡ jb c = pair_first (j.0, states j.0) (jb c, states (jb c)) (sym (found j.0 j.1 i) ∙ found (jb c) here out) in
            idle (kept_state image settings progress plan (jb c)) (by_table image settings progress plan (jb c)) clean
            (subst (λ (x : Job). test_some is_restore (kept_state image settings progress plan x) ≡ true) same
            (and_left (test_some is_restore (kept_state image settings progress plan j.0)) _ j.2))

    its : IsRecorded c f
    its = recorded c f quiet out

    abbrev r : Record
    r = its.r

    input_here : (q : Path) (s : Stamp) → IsIn (stamped r) (q, s) → IsIn (in_paths (recipe flow L c)) q × Comes m q
    input_here q s k =
        let inn = subst (λ (rec : Recipe). IsIn (in_paths rec) q) its.same (zip_first (in_paths r.recipe) r.stamps q s k) in
        (inn, reached_step flow srcs L (flat_map (walk flow srcs L 200) settings.targets) m p c q comes chosen (inputs_wanted flow c L q inn))

    -- ## Its record hangs together

    spoken : (q : Path) (n : ℕ) → IsIn (stamped r) (q, Made n) → Spoken image E q n
    spoken q n k = let at = input_here q (Made n) k in go at.0 at.1 (choice_known flow srcs L m q at.1.calm)
      where
        go :
            IsIn (in_paths (recipe flow L c)) q → Comes m q → (choose flow srcs q ≡ Source) ⊎ ((d : Candidate) × (choose flow srcs q ≡ Make d)) →
            Spoken image E q n
        go inn at (inl e) =
            let is = source_chosen flow srcs q e in
            let file = source_file image q is in
            absurd (made_source n file.0 (its.steady q (Made n) (content_stamp file.0) k (source_stamp_but image restored q file.0 is file.1)))
        go inn at (inr d) =
            let calm = products.quiet_input flow act has_fields image H settings progress plan fills planned m p c q d.0 comes chosen quiet inn d.1 in
            let from = products.quiet_product flow act has_fields image H settings progress plan fills planned m q d.0 at d.1 calm in
            let product = from.2 in
            record {
              place = from.0;
              by = core from.1;
              speaks = record {
                no_source = (chosen_viable flow srcs q d.0 d.1).1;
                holder = product.holds;
                clear = cleared from.0 (core from.1) (core_reads image from.0 from.1 product.reads) product.unmarked;
              };
              serial = serial_same n from.1.made (its.steady q (Made n) (Made from.1.made) k product.stamp);
              chain = chained_at flow act has_fields image H settings progress plan fills rest m q d.0 from.0 from.1 at product calm;
            }

    chain : Chain image E any_source (core r)
    chain = chain_make image E (core r) spoken

    held : (t : Tree) × (tree_now image f ≡ Some t) × (Vir image act H f ≡ Some t)
    held =
        rest.sound.holds f (core r) (core_reads image f r its.reads) (uncounted (image.marked f) (restored f) unrestored its.unmarked) chain
        (subst (λ (rec : Recipe). is_whole image f (kind_in rec f) ≡ true) (sym its.same) whole)

    -- ## It vouches for what is made of clean values

    input_means :
        (k : ℕ) (q : Path) (s : Stamp) (x : Tree) → IsIn (stamped r) (q, s) → input_value image H (vir image act H k) (q, s) ≡ Some x → mean S m q ≡ Some x
    input_means k q s x inn v = let at = input_here q s inn in go at.0 at.1 (choice_known flow srcs L m q at.1.calm)
      where
        go :
            IsIn (in_paths (recipe flow L c)) q → Comes m q → (choose flow srcs q ≡ Source) ⊎ ((d : Candidate) × (choose flow srcs q ≡ Make d)) →
            mean S m q ≡ Some x
        go i at (inl e) =
            let is = source_chosen flow srcs q e in
            let file = source_file image q is in
            let now = rest.sound.has_sources q file.0 (source_reads image q file.0 is file.1) in
            let same = its.steady q s (content_stamp file.0) inn (source_stamp_but image restored q file.0 is file.1) in
            let has = rest.sound.has_recorded f (core r) q s (cleared f (core r) (core_reads image f r its.reads) its.unmarked) inn in
            let then = agreeing H rest.differ q s file.0 now has same in
            source_means m q file.0 is file.1 ∙ (sym (source_value image H (vir image act H k) q s then.0 file.0.bytes then.1 then.2) ∙ v)
        go i at (inr d) =
            let calm = products.quiet_input flow act has_fields image H settings progress plan fills planned m p c q d.0 comes chosen quiet i d.1 in
            let from = products.quiet_product flow act has_fields image H settings progress plan fills planned m q d.0 at d.1 calm in
            let product = from.2 in
            let same = is_serial s from.1.made (its.steady q s (Made from.1.made) inn product.stamp) in
            let had = subst (λ s. input_value image H (vir image act H k) (q, s) ≡ Some x) same v in
            let t = product_value k q from.0 from.1.made x product.holds had in
            meant flow act has_fields image H settings progress plan fills rest m q d.0 from.0 from.1 at product calm k t.0 x t.1 t.2

    abbrev k : ℕ
    k = made_at (core_at image f)

    runs_now : (M : Listings) → job flow L c ≡ job flow M c → wants flow L c ≡ wants flow M c → is_runnable S c M ≡ true
    runs_now M jobs wanted =
        and_both (is_some c.part.command) _ (has_command flow srcs L (suc m) p c comes.calm chosen)
        (and_both (has_fields (job flow M c)) (list_all is_path (wants flow M c))
        (ap has_fields (sym jobs) ∙ rest.fields (job flow L c) (contains_from plan.jobs (job flow L c) here) quiet.shut)
        (subst (λ ws. list_all is_path ws ≡ true) wanted
        (all_from is_path (wants flow L c) (λ w i. want_path flow srcs L (suc m) p c w comes.calm chosen i))))

    held_made : made S m c f ≡ Some held.0
    held_made =
        let e = sym (vir_make image act H k f (core r) (core_reads image f r its.reads)) ∙ held.2 in
        let given = value_given act r.recipe f (all_of (map (input_value image H (vir image act H k)) (stamped r))) held.0 e in
        let ins =
        inputs_same (input_value image H (vir image act H k)) (mean S m) (in_paths r.recipe) r.stamps (each_stamped r (planned.valid f r its.reads).1)
        (λ q s y i w. input_means k q s y i w) given.0 given.1 in
        let known =
        listings_agree (mean S m) L (gathered_folders flow c) (λ g i.
        folder_means flow act has_fields image H settings progress plan fills rest m (meant flow act has_fields image H settings progress plan fills rest m) p c
        comes chosen quiet g i) in
        let M = listings_of (gathered_folders flow c) known.0 in
        let recipes = recipe_same flow c L M known.2 in
        let jobs = job_same flow c L M known.2 in
        let wanted = wants_same flow c L M known.2 in
        ap (gathers_by S m f c) known.1
        ∙ (ap (runs S m f c M) (runs_now M jobs wanted)
        ∙ (ap (λ (rec : Recipe). value_at act rec f (all_of (map (mean S m) (in_paths rec)))) (sym recipes ∙ sym its.same)
        ∙ (ap (value_at act r.recipe f) ins ∙ (sym (ap (value_at act r.recipe f) given.1) ∙ e))))

    -- ## A directory's record lists its files

    folder_tree : (t : Tree) → is_folder image f ≡ true → tree_now image f ≡ Some t → Folder (entries image f image.names) ≡ t
    folder_tree t is e =
        some_inj (Folder (entries image f image.names)) t
        (sym (ap (λ b. cond b (Some (Folder (entries image f image.names))) (option_map File (option_map (λ (x : Content). x.bytes) (content_of (image.node f)))))
        is)
        ∙ e)

    names_stand : (q : Path) → IsIn (names_under image f) q → is_some (image.node q) ≡ true
    names_stand q i = sym (planned.complete.names q) ∙ in_among image.names q ((filter_in (λ p. is_under p f) image.names q i).0)

    -- what is made there has the files that the record lists
    pub listed_made : IsIn (folders_of (recipe flow L c)) f → (t : Tree) × (made S m c f ≡ Some t) × (files_listed image f ≡ files_of t)
    listed_made i =
        let w = subst (λ b. is_whole image f (cond b FolderKind Plain) ≡ true) (in_among (folders_of (recipe flow L c)) f i) whole in
        let is = and_left (is_folder image f) _ w in
        let same =
        members_same (members_under image f) (members_of (record_at image f)) (and_right (is_some (record_at image f)) _ (and_right (is_folder image f) _ w)) in (
          held.0,
          held_made,
          sym (ap names_of same) ∙ (sym (listed_under image f names_stand) ∙ ap files_of (folder_tree held.0 is held.1)),
        )
