-- What a plan says of a path that one of its jobs makes, where that job is neither Open nor Dirty.
use Rattle.std.proofs.Common.{◌≡◌, ◌⊎◌, ℕ, zero, suc, Bool, true, false, not, cond, ◌&&◌, ◌||◌, List, [], ◌∷◌, map, filter, flat_map, find, length, refl, sym, ap, subst, inl, inr, ◌∙◌, Option, Some, None, option_map, zip, option_and_then, reverse, IsTrue, is_some, is_none, true≢false, Contains, eqb-true}
use Rattle.std.specs.Prelude.{bytes_eq, nat_lt, nat_le, ◌==◌, ◌++◌}
use Rattle.std.specs.List.{list_all, list_any}
use Rattle.smk_base.specs.declared.tree.Tree.{Tree}
use Rattle.smk_base.specs.declared.tree.Tree.TheVariants.{File, Folder}
use Rattle.smk_base.specs.Path.{is_under}
use Rattle.smk_base.proofs.Places.{same_place, place_itself}
use Rattle.smk_base.proofs.Under.{never_under_itself}
use Rattle.smk_world.specs.declared.event.Node.{Node}
use Rattle.smk_world.specs.declared.event.Node.TheVariants.{Regular, Directory}
use Rattle.smk_world.specs.declared.recipe.Recipe.{Recipe}
use Rattle.smk_world.specs.declared.recipe.Kind.TheVariants.{Plain, Folder as FolderKind}
use Rattle.smk_world.specs.World.{in_paths, out_paths, folders_above}
use Rattle.smk_world.specs.Trees.{Path, Act, among, below, files_of, file_in, folder_over, folders_of, kind_in, part_at, value_at, is_path_text}
use Rattle.smk_record.specs.declared.record.Stamp.{Stamp}
use Rattle.smk_record.specs.declared.record.Stamp.TheVariants.{Made}
use Rattle.smk_record.specs.declared.record.Record.{Record}
use Rattle.smk_record.specs.Records.{agree, stamped, members_of, core, is_valid, is_earlier, are_rising, are_valid_members, are_none}
use Rattle.smk_record.specs.declared.record.Member.{Member}
use Rattle.smk_base.specs.declared.tree.Pair.{Pair}
use Rattle.smk_pattern.specs.Bound.{BoundFills}
use Rattle.smk_flow.specs.declared.job.Job.{Job}
use Rattle.smk_flow.specs.Flows.{Flow, Candidate, gathered_folders, makes_folder}
use Rattle.smk_choose.specs.Choose.{Sources, choose, Make}
use Rattle.smk_store.specs.Images.{Image, Content, content_of, is_directory, stands, file_at, is_file, is_folder, names_under, members_under, entry_under, tree_now, record_at, core_at, is_whole, is_known, is_covered, is_source, source_at}
use Rattle.smk_store.specs.Trust.{Versions, SumsDiffer, holder, is_folder_record, made_stamp, is_marked_but, unmarked_stamp_but, stamp_now_but, source_stamp}
use Rattle.smk_store.specs.Soundness.{Sound}
use Rattle.smk_chain.specs.Derive.{listing, job, jobs, recipe, walk, refusals, clashes, spots, is_deep, distinct, sources_of, Deep, Refusal, refused_if, refused, reach, TooManyPaths}
use Rattle.smk_trigger.specs.declared.reason.Reason.{Reason}
use Rattle.smk_trigger.specs.declared.reason.Reason.TheVariants.{Upstream}
use Rattle.smk_trigger.specs.declared.reason.State.{State}
use Rattle.smk_trigger.specs.declared.reason.State.TheVariants.{Open, Dirty, Restore, Clean}
use Rattle.smk_trigger.specs.JobStates.{is_open, is_dirty, is_clean, is_restore}
use Rattle.smk_trigger.specs.Reasons.{once}
use Rattle.smk_pick.specs.declared.settings.Settings.{Settings}
use Rattle.smk_plan.specs.States.{Plan, Progress, IsPlan, files_listed, gathers_from, reasons, is_open_now, is_ready, maker_of, state_of, by_table, by_reasons, while_running, kept_state, is_restored, makes, made_by, is_whole_by, stands_whole, awaits, is_at_hand, test_some}
use Rattle.smk_chain.specs.Mean.{setting_of}
use Rattle.smk_laws_plan.specs.Current.{IsComplete, HasValidRecords, IsRight, eased_by}
use Rattle.smk_laws_plan.proofs.CurrentLists.{In, append_nil_left, append_nil_right, map_nil, filter_nil, filter_in, any_none, in_left, find_some, or_first, or_second, or_left, or_right, and_left, and_right, not_false, not_true, in_distinct, in_map, zip_first, find_in, clash_of, some_inj, none_some}
use Rattle.smk_laws_plan.proofs.CurrentReach.{Reached, reached_zero, reached_own, reached_step, reached_target, outcome_derived}
use Rattle.smk_laws_plan.proofs.CurrentRecipes.{inputs_wanted, folders_wanted}
use Rattle.smk_laws_plan.proofs.CurrentWalked.{walked_job}
use Rattle.smk_laws_plan.proofs.CurrentApart.{Apart, own_apart, apart_same, record_at_output, record_stands, JobsApart, jobs_apart, spots_apart, maker_found, same_trans}
use Rattle.smk_laws_plan.proofs.CurrentChosen.{chosen_viable, folders_paths, Origin, origin, output_in, folder_made}
use Rattle.smk_laws_plan.proofs.CurrentStates.{unless_open, unless_dirty}
use Rattle.smk_laws_plan.proofs.CurrentPaths.{among_in, in_among, in_reverse, reverse_in, folders_under, both_above, Above}
use Rattle.smk_laws_plan.proofs.CurrentSame.{own_calm, held_agrees, kept_record, in_once_of}
use Rattle.smk_laws_plan.proofs.CurrentTrees.{value_part, file_found, entries, names_of, listed_under, members_same}

pub some_of : {A : Type 0} (o : Option A) → is_some o ≡ true → (x : A) × (o ≡ Some x)
some_of None h = absurd (true≢false (sym h))
some_of (Some x) h = (x, refl)

file_node : (o : Option Node) (f : Content) → content_of o ≡ Some f → (is_directory o ≡ false) × (is_some o ≡ true)
file_node None f h = absurd (none_some None f refl h)
file_node (Some Directory) f h = absurd (none_some None f refl h)
file_node (Some (Regular bytes time read_only)) f h = (refl, refl)

pub file_tree : (image : Image) (p : Path) (f : Content) → file_at image p ≡ Some f → tree_now image p ≡ Some (File f.bytes)
file_tree image p f h =
    ap (λ b. cond b (Some (Folder (map (entry_under image p) (names_under image p)))) (option_map File (option_map (λ (f : Content). f.bytes) (content_of (image.node p)))))
    ((file_node (image.node p) f h).0)
    ∙ ap (λ o. option_map File (option_map (λ (f : Content). f.bytes) o)) h

pub core_reads : (image : Image) (p : Path) (r : Record) → record_at image p ≡ Some r → core_at image p ≡ Some (core r)
core_reads image p r e = ap (option_map core) e

core_some : (o : Option Record) (c : Record) → option_map core o ≡ Some c → (r : Record) × (o ≡ Some r)
core_some None c h = absurd (none_some None c refl h)
core_some (Some r) c h = (r, refl)

pub each_stamped : (r : Record) → is_valid r ≡ true → length r.stamps ≡ length (in_paths r.recipe)
each_stamped r h = eqb-true (length r.stamps) (length (in_paths r.recipe)) (and_left (length r.stamps == length (in_paths r.recipe)) _ h)

-- a record of a plain output has no members
pub plain_record : (r : Record) → is_valid r ≡ true → among (folders_of r.recipe) r.path ≡ false → r.members ≡ []
plain_record r h plain =
    let one = and_right (length r.stamps == length (in_paths r.recipe)) _ h in
    let two = and_right (among (out_paths r.recipe) r.path) _ one in
    let three = and_right (nat_le 1 r.made) _ two in
    let four = and_right (list_all (is_earlier r.made) r.stamps) _ three in
    let five = and_right (are_rising (map (λ (w : Pair). w.name) r.recipe.wildcards)) _ four in
    let six = and_right (list_all is_path_text (in_paths r.recipe)) _ five in
    let seven = and_right (list_all is_path_text (out_paths r.recipe)) _ six in
    nil r.members
    (go (among (folders_of r.recipe) r.path) plain
    (and_left (cond (among (folders_of r.recipe) r.path) (are_valid_members r.path r.members) (are_none r.members)) _ seven))
  where
    nil : (ms : List Member) → are_none ms ≡ true → ms ≡ []
    nil [] k = refl
    nil (m ∷ ms) k = absurd (true≢false (sym k))

    go : (b : Bool) → b ≡ false → cond b (are_valid_members r.path r.members) (are_none r.members) ≡ true → are_none r.members ≡ true
    go true x k = absurd (true≢false x)
    go false x k = k

pub once_paths : (ps : List Path) (p : Path) → In p ps → In p (distinct bytes_eq ps)
once_paths ps p h = let d = in_distinct bytes_eq place_itself same_trans ps p h in subst (λ w. In w (distinct bytes_eq ps)) (same_place d.0 p d.2) d.1

-- A plan in an image whose lists are complete and whose records are valid.
pub record Planned (flow : Flow) (image : Image) (settings : Settings) (progress : Progress) (plan : Plan) : Type 0 where
  pub complete : IsComplete image
  pub valid : HasValidRecords image
  pub derived : IsPlan flow image settings progress plan

-- A plan in an image that is sound, the marks of running Restores left out, whose listings are right where they count; no two different
-- contents of sources have the same SHA-256.
pub record Rested
    (flow : Flow) (act : Act) (has_fields : Job → Bool) (image : Image) (H : Versions) (settings : Settings) (progress : Progress) (plan : Plan) : Type 0 where
  pub sound : Sound act H image (eased_by image (is_restored image settings progress plan))
  pub differ : SumsDiffer H
  pub planned : Planned flow image settings progress plan
  pub lists :
      (j : Job) (f : Path) (files : List Path) → In j plan.jobs → is_open_now image settings progress plan j ≡ false → In f (gathers_from j) →
      listing plan.lists f ≡ Some files → IsRight (setting_of flow act has_fields image) image f files
  pub fields : (j : Job) → Contains plan.jobs j → is_open_now image settings progress plan j ≡ false → has_fields j ≡ true

-- what a job is by the table, from its state
table_quiet : (b : Bool) (rs : List Reason) (x : Bool) → is_open (cond b Open (by_reasons rs x)) ≡ false → is_dirty (cond b Open (by_reasons rs x)) ≡ false → (b ≡ false) × (rs ≡ [])
table_quiet true rs x h k = absurd (true≢false h)
table_quiet false [] x h k = (refl, refl)
table_quiet false (r ∷ rs) x h k = absurd (true≢false k)

running_quiet : (o : Option State) (s : State) → is_open (while_running o s) ≡ false → is_dirty (while_running o s) ≡ false → (is_open s ≡ false) × (is_dirty s ≡ false)
running_quiet None s h k = (h, k)
running_quiet (Some (Dirty rs)) s h k = absurd (true≢false k)
running_quiet (Some Open) s h k = (sym (unless_open s) ∙ h, sym (unless_dirty s) ∙ k)
running_quiet (Some Restore) s h k = (sym (unless_open s) ∙ h, sym (unless_dirty s) ∙ k)
running_quiet (Some Clean) s h k = (sym (unless_open s) ∙ h, sym (unless_dirty s) ∙ k)

module _
    (flow : Flow) (act : Act) (has_fields : Job → Bool) (image : Image) (H : Versions) (settings : Settings) (progress : Progress)
    (plan : Plan) where
  -- the outputs of jobs that run as a Restore
  abbrev pub restored : Path → Bool
  restored p = is_restored image settings progress plan p

  -- neither Open nor Dirty by the table
  pub record Quiet (c : Candidate) : Type 0 where
    pub shut : is_open_now image settings progress plan (job flow plan.lists c) ≡ false
    pub calm : reasons image settings progress plan (job flow plan.lists c) ≡ []

  -- a path that a job makes, and the output of this job whose record speaks for the path
  pub record Product (c : Candidate) (q h : Path) (r : Record) : Type 0 where
    pub chosen : choose flow (sources_of image) q ≡ Make c
    pub is_output : In h (out_paths (recipe flow plan.lists c))
    pub place : (q ≡ h) ⊎ (is_under q h ≡ true) × In h (folders_of (recipe flow plan.lists c))
    pub holds : holder image q ≡ Some h
    pub reads : record_at image h ≡ Some r
    pub same : r.recipe ≡ recipe flow plan.lists c
    pub unmarked : is_marked_but image restored h ≡ false
    pub stamp : stamp_now_but image restored q ≡ Some (Made r.made)
    pub agrees : (p : Path) (s now : Stamp) → In (p, s) (stamped r) → stamp_now_but image restored p ≡ Some now → agree s now ≡ true
    pub part :
        (v : Option (List Tree)) (t x : Tree) →
        value_at act r.recipe h v ≡ Some t → part_at h q t ≡ Some x → value_at act r.recipe q v ≡ Some x

  abbrev pub ReachedHere : ℕ → Path → Type 0
  ReachedHere n p = Reached flow (sources_of image) plan.lists (flat_map (walk flow (sources_of image) plan.lists 200) settings.targets) n p

  module _ (fills : BoundFills) (rest : Planned flow image settings progress plan) where
    abbrev srcs : Sources
    srcs = sources_of image

    abbrev walked : List Candidate
    walked = flat_map (walk flow srcs plan.lists 200) settings.targets

    abbrev jb : Candidate → Job
    jb c = job flow plan.lists c

    abbrev states : Job → State
    states j = state_of image settings progress plan j

    -- ## the derivation

    derived : (refusals flow srcs image plan.lists settings.targets ≡ []) × (jobs flow srcs plan.lists settings.targets ≡ plan.jobs)
    derived = outcome_derived (refusals flow srcs image plan.lists settings.targets) (jobs flow srcs plan.lists settings.targets) plan.jobs rest.derived.derived

    abbrev early : List Refusal
    early = refused_if (nat_lt 100000 (length (reach flow srcs plan.lists 400 settings.targets))) TooManyPaths

    abbrev deep : List Refusal
    deep = map Deep (filter (is_deep flow srcs image plan.lists settings.targets) settings.targets)

    abbrev met : List Refusal
    met = flat_map (refused flow srcs plan.lists 201) settings.targets

    abbrev clashing : List Refusal
    clashing = clashes image [] (flat_map spots (jobs flow srcs plan.lists settings.targets))

    none_refused : (deep ≡ []) × (met ≡ []) × (clashing ≡ [])
    none_refused =
        let one = append_nil_right early (deep ++ (met ++ clashing)) derived.0 in
        let two = append_nil_right deep (met ++ clashing) one in
        (append_nil_left deep (met ++ clashing) one, append_nil_left met clashing two, append_nil_right met clashing two)

    no_clash : clashes image [] (flat_map spots plan.jobs) ≡ []
    no_clash = subst (λ js. clashes image [] (flat_map spots js) ≡ []) derived.1 none_refused.2

    apart : JobsApart plan.jobs
    apart = jobs_apart plan.jobs (spots_apart image [] (flat_map spots plan.jobs) no_clash)

    pub target_reached : (p : Path) → In p settings.targets → ReachedHere 200 p
    target_reached p h =
        let calm = none_refused.1 in
        let shallow = map_nil Deep (filter (is_deep flow srcs image plan.lists settings.targets) settings.targets) none_refused.0 in
        reached_target flow srcs plan.lists settings.targets 200 p (filter_nil (is_deep flow srcs image plan.lists settings.targets) settings.targets p shallow h) calm h

    -- the job is in the plan
    pub in_plan :
        (n : ℕ) (p : Path) (c : Candidate) → ReachedHere (suc n) p → choose flow (sources_of image) p ≡ Make c → In (job flow plan.lists c) plan.jobs
    in_plan n p c reached e =
        subst (In (jb c)) derived.1 (walked_job flow srcs plan.lists settings.targets 200 c (reached_own flow srcs plan.lists walked n p c reached e))

    pub in_plan_here : (n : ℕ) (p : Path) (c : Candidate) → ReachedHere n p → choose flow (sources_of image) p ≡ Make c → In (job flow plan.lists c) plan.jobs
    in_plan_here zero p c reached e = absurd (reached_zero flow srcs plan.lists walked p c reached e)
    in_plan_here (suc n) p c reached e = in_plan n p c reached e

    made_place : (q : Path) (c : Candidate) → choose flow srcs q ≡ Make c → (h : Path) × In h (out_paths (recipe flow plan.lists c)) × ((q ≡ h) ⊎ (is_under q h ≡ true) × In h (folders_above q) × In h (folders_of (recipe flow plan.lists c)))
    made_place q c e = let o = origin flow q c srcs e in go o o.at_or_above
      where
        go : (o : Origin flow q c) → (q ≡ o.place) ⊎ (is_under q o.place ≡ true) × In o.place (folders_above q) × (makes_folder o.out ≡ true) → (h : Path) × In h (out_paths (recipe flow plan.lists c)) × ((q ≡ h) ⊎ (is_under q h ≡ true) × In h (folders_above q) × In h (folders_of (recipe flow plan.lists c)))
        go o (inl s) = (o.place, output_in flow plan.lists c fills o.place o.out o.is_out o.binds, inl s)
        go o (inr u) = (o.place, output_in flow plan.lists c fills o.place o.out o.is_out o.binds, inr (u.0, u.1, folder_made flow plan.lists c fills o.place o.out o.is_out o.binds u.2))

    own_makes : (q : Path) (c : Candidate) → choose flow srcs q ≡ Make c → makes (jb c) q ≡ true
    own_makes q c e = let m = made_place q c e in go m.0 m.1 m.2
      where
        go : (h : Path) → In h (out_paths (recipe flow plan.lists c)) → (q ≡ h) ⊎ (is_under q h ≡ true) × In h (folders_above q) × In h (folders_of (recipe flow plan.lists c)) → makes (jb c) q ≡ true
        go h i (inl s) = or_first _ _ (in_among (out_paths (recipe flow plan.lists c)) q (subst (λ w. In w (out_paths (recipe flow plan.lists c))) (sym s) i))
        go h i (inr u) = or_second _ _ (let r = find_some (is_under q) (folders_of (recipe flow plan.lists c)) h u.2 u.0 in ap is_some r.1)

    -- its maker by the plan is the chosen job
    pub maker_is : (n : ℕ) (q : Path) (c : Candidate) → ReachedHere n q → choose flow srcs q ≡ Make c → maker_of plan q ≡ Some (jb c, states (jb c))
    maker_is n q c reached e =
        ap (λ ss. find (λ (e : Job × State). makes e.0 q) (zip plan.jobs ss)) rest.derived.states
        ∙ maker_found states plan.jobs (jb c) q apart (in_plan_here n q c reached e) (own_makes q c e)

    -- ## states

    pub quiet_by : (c : Candidate) → is_open (states (jb c)) ≡ false → is_dirty (states (jb c)) ≡ false → Quiet c
    quiet_by c h k =
        let r = running_quiet (kept_state image settings progress plan (jb c)) (by_table image settings progress plan (jb c)) h k in
        let t = table_quiet (is_open_now image settings progress plan (jb c)) (reasons image settings progress plan (jb c)) _ r.0 r.1 in
        record { shut = t.0; calm = t.1 }

    clean_quiet : (s : State) → is_clean s ≡ true → (is_open s ≡ false) × (is_dirty s ≡ false)
    clean_quiet Open h = absurd (true≢false (sym h))
    clean_quiet (Dirty rs) h = absurd (true≢false (sym h))
    clean_quiet Restore h = absurd (true≢false (sym h))
    clean_quiet Clean h = (refl, refl)

    -- F: what is ready is made by a quiet job, and whole
    pub ready_parts :
        (n : ℕ) (q : Path) (c : Candidate) → ReachedHere n q → choose flow srcs q ≡ Make c → IsTrue (is_ready image settings progress plan q) →
        Quiet c × (stands_whole image q (jb c) ≡ true)
    ready_parts n q c reached e ready =
        let m = maker_is n q c reached e in
        let both = sym (ap (test_some (λ (e : Job × State). is_clean e.1 && stands_whole image q e.0)) m) ∙ ready in
        let s = clean_quiet (states (jb c)) (and_left (is_clean (states (jb c))) _ both) in
        (quiet_by c s.0 s.1, and_right (is_clean (states (jb c))) _ both)

    pub ready_quiet :
        (n : ℕ) (p : Path) (c : Candidate) →
        ReachedHere (suc n) p → choose flow (sources_of image) p ≡ Make c → IsTrue (is_ready image settings progress plan p) → Quiet c
    ready_quiet n p c reached e ready = (ready_parts (suc n) p c reached e ready).0

    -- what makes a ready path is Clean
    pub maker_clean :
        (n : ℕ) (q : Path) (c : Candidate) → ReachedHere n q → choose flow srcs q ≡ Make c → IsTrue (is_ready image settings progress plan q) →
        is_clean (states (jb c)) ≡ true
    maker_clean n q c reached e ready =
        let m = maker_is n q c reached e in
        and_left (is_clean (states (jb c))) (stands_whole image q (jb c)) (sym (ap (test_some (λ (e : Job × State). is_clean e.1 && stands_whole image q e.0)) m) ∙ ready)

    -- what makes a ready path doesn't run
    pub not_restored :
        (n : ℕ) (q : Path) (c : Candidate) (h : Path) → ReachedHere n q → choose flow srcs q ≡ Make c → IsTrue (is_ready image settings progress plan q) →
        In h (out_paths (recipe flow plan.lists c)) → restored h ≡ false
    not_restored n q c h reached e ready i = none_of (λ j. test_some is_restore (kept_state image settings progress plan j) && among (out_paths j.recipe) h) plan.jobs each
      where
        idle : (o : Option State) (s : State) → is_clean (while_running o s) ≡ true → test_some is_restore o ≡ false
        idle None s k = refl
        idle (Some Open) s k = refl
        idle (Some (Dirty rs)) s k = refl
        idle (Some Clean) s k = refl
        idle (Some Restore) Open k = absurd (true≢false (sym k))
        idle (Some Restore) (Dirty rs) k = absurd (true≢false (sym k))
        idle (Some Restore) Restore k = absurd (true≢false (sym k))
        idle (Some Restore) Clean k = absurd (true≢false (sym k))

        none_of : (test : Job → Bool) (js : List Job) → ((j : Job) → In j js → test j ≡ false) → list_any test js ≡ false
        none_of test [] f = refl
        none_of test (j ∷ js) f = let a = f j (inl refl) in let b = none_of test js (λ k l. f k (inr l)) in λ i. a i || b i

        each : (j : Job) → In j plan.jobs → (test_some is_restore (kept_state image settings progress plan j) && among (out_paths j.recipe) h) ≡ false
        each j l = go (among (out_paths j.recipe) h) refl
          where
            other : (t b : Bool) → b ≡ false → (t && b) ≡ false
            other true b x = x
            other false b x = refl

            first : (t b : Bool) → t ≡ false → (t && b) ≡ false
            first true b x = absurd (true≢false x)
            first false b x = refl

            here : (o : Path) → In o (out_paths j.recipe) → makes j o ≡ true
            here o k = or_first (among (out_paths j.recipe) o) (is_some (folder_over j.recipe o)) (in_among (out_paths j.recipe) o k)

            own : makes (jb c) h ≡ true
            own = or_first (among (out_paths (recipe flow plan.lists c)) h) (is_some (folder_over (recipe flow plan.lists c) h)) (in_among (out_paths (recipe flow plan.lists c)) h i)

            go : (b : Bool) → among (out_paths j.recipe) h ≡ b → (test_some is_restore (kept_state image settings progress plan j) && among (out_paths j.recipe) h) ≡ false
            go false k = other (test_some is_restore (kept_state image settings progress plan j)) (among (out_paths j.recipe) h) k
            go true k =
                let a = maker_found states plan.jobs j h apart l (here h (among_in (out_paths j.recipe) h k)) in
                let b = maker_found states plan.jobs (jb c) h apart (in_plan_here n q c reached e) own in
                let same : j ≡ jb c = ap (λ (x : Job × State). x.0) (some_inj (j, states j) (jb c, states (jb c)) (sym a ∙ b)) in
                first (test_some is_restore (kept_state image settings progress plan j)) (among (out_paths j.recipe) h)
                (subst (λ x. test_some is_restore (kept_state image settings progress plan x) ≡ false) (sym same) (idle (kept_state image settings progress plan (jb c)) (by_table image settings progress plan (jb c)) (maker_clean n q c reached e ready)))

    made_by_is : (test : State → Bool) (n : ℕ) (q : Path) (c : Candidate) → ReachedHere n q → choose flow srcs q ≡ Make c → made_by plan test q ≡ false → test (states (jb c)) ≡ false
    made_by_is test n q c reached e h =
        sym (ap (test_some (λ (e : Job × State). test e.1)) (maker_is n q c reached e)) ∙ h

    -- B: a product among the inputs of a quiet job is made by a quiet job
    pub quiet_input :
        (n : ℕ) (p : Path) (c : Candidate) (q : Path) (d : Candidate) →
        ReachedHere (suc n) p → choose flow (sources_of image) p ≡ Make c → Quiet c →
        In q (in_paths (recipe flow plan.lists c)) → choose flow (sources_of image) q ≡ Make d → Quiet d
    quiet_input n p c q d reached e quiet h made =
        let comes = reached_step flow srcs plan.lists walked n p c q reached e (inputs_wanted flow c plan.lists q h) in
        let shut = any_none (made_by plan is_open) (in_paths (recipe flow plan.lists c)) q (or_right _ _ (or_right _ _ quiet.shut)) h in
        let once = once_paths (in_paths (recipe flow plan.lists c)) q h in
        let up = map_nil Upstream (filter (made_by plan is_dirty) (distinct bytes_eq (in_paths (recipe flow plan.lists c))))
        (append_nil_left _ _ (append_nil_right _ _ quiet.calm)) in
        quiet_by d (made_by_is is_open n q d comes made shut)
        (made_by_is is_dirty n q d comes made (filter_nil (made_by plan is_dirty) (distinct bytes_eq (in_paths (recipe flow plan.lists c))) q up once))

    -- C: a directory that a quiet job gathers from is a source, or its job is quiet and it is whole
    pub quiet_folder :
        (n : ℕ) (p : Path) (c : Candidate) (q : Path) (d : Candidate) →
        ReachedHere (suc n) p → choose flow (sources_of image) p ≡ Make c → Quiet c →
        In q (gathered_folders flow c) → choose flow (sources_of image) q ≡ Make d →
        Quiet d × IsTrue (is_ready image settings progress plan q)
    quiet_folder n p c q d reached e quiet h made =
        let comes = reached_step flow srcs plan.lists walked n p c q reached e (folders_wanted flow c plan.lists q h) in
        let hand = any_none (λ d. not (is_at_hand image settings progress plan d)) (awaits plan (jb c)) q
        (or_left _ _ quiet.shut) (in_left q (gathered_folders flow c) _ h) in
        let ready = second (maker_of plan q) (is_ready image settings progress plan q) (maker_is n q d comes made) (not_false _ hand) in
        ((ready_parts n q d comes made ready).0, ready)
      where
        second : (o : Option (Job × State)) (b : Bool) → o ≡ Some (jb d, states (jb d)) → (is_none o || b) ≡ true → b ≡ true
        second o b e h = sym (ap (λ o. is_none o || b) e) ∙ h

    -- ## records

    output_record :
        (c : Candidate) (h : Path) → Quiet c → In h (out_paths (recipe flow plan.lists c)) →
        (r : Record) × (record_at image h ≡ Some r) × (r.recipe ≡ recipe flow plan.lists c) × (is_marked_but image restored h ≡ false)
        × ((p : Path) (s now : Stamp) → In (p, s) (stamped r) → stamp_now_but image restored p ≡ Some now → agree s now ≡ true)
    output_record c h quiet i =
        let calm =
        own_calm (recipe flow plan.lists c) (map image.kept (out_paths (recipe flow plan.lists c))) (map (is_marked_but image restored) (out_paths (recipe flow plan.lists c)))
        (map (λ q. (q, stamp_now_but image restored q)) (in_paths (recipe flow plan.lists c)))
        (append_nil_left _ _ quiet.calm) in
        let r = kept_record image (out_paths (recipe flow plan.lists c)) h calm.present calm.readable i in
        let a =
        held_agrees (recipe flow plan.lists c) (map image.kept (out_paths (recipe flow plan.lists c))) (map (is_marked_but image restored) (out_paths (recipe flow plan.lists c)))
        (map (λ q. (q, stamp_now_but image restored q)) (in_paths (recipe flow plan.lists c))) calm r.0 r.2 in (
          r.0,
          r.1,
          a.same,
          any_none (λ b. b) (map (is_marked_but image restored) (out_paths (recipe flow plan.lists c))) (is_marked_but image restored h) calm.unmarked (in_map (is_marked_but image restored) (out_paths (recipe flow plan.lists c)) h i),
          λ p s now k e. a.steady p s now
              (subst (λ o. In (p, o) (once (map (λ q. (q, stamp_now_but image restored q)) (in_paths (recipe flow plan.lists c))))) e
              (in_once_of (stamp_now_but image restored) (in_paths (recipe flow plan.lists c)) p
              (subst (λ rec. In p (in_paths rec)) a.same (zip_first (in_paths r.0.recipe) r.0.stamps p s k))))
              k,
        )

    own_holder : (h : Path) (r : Record) → record_at image h ≡ Some r → holder image h ≡ Some h
    own_holder h r e = ap (λ o. cond (is_some o) (Some h) (find (λ f. is_folder_record f (core_at image f)) (reverse (folders_above h)))) (core_reads image h r e)

    -- at a member no record stands
    member_unrecorded :
        (c : Candidate) (h q : Path) → In (jb c) plan.jobs → In h (out_paths (recipe flow plan.lists c)) → is_under q h ≡ true → record_at image q ≡ None
    member_unrecorded c h q inn i u = go (record_at image q) refl
      where
        go : (o : Option Record) → record_at image q ≡ o → o ≡ None
        go None e = refl
        go (Some r) e =
            let same = record_at_output image rest.complete plan.jobs no_clash (jb c) inn h i q r e (inr (inr u)) in
            absurd (clash_of (is_under q q) (subst (λ w. is_under q w ≡ true) same u) (never_under_itself q))

    directory_some : (f : Path) (o : Option Record) → is_folder_record f o ≡ true → (r : Record) × (o ≡ Some r)
    directory_some f None h = absurd (true≢false (sym h))
    directory_some f (Some r) h = (r, refl)

    member_holder :
        (c : Candidate) (h q : Path) (r : Record) → In (jb c) plan.jobs → In h (out_paths (recipe flow plan.lists c)) → is_under q h ≡ true → In h (folders_above q) →
        record_at image h ≡ Some r → among (folders_of r.recipe) h ≡ true → holder image q ≡ Some h
    member_holder c h q r inn i u above e dir =
        let found = find_some (λ f. is_folder_record f (core_at image f)) (reverse (folders_above q)) h (in_reverse (folders_above q) h above) (ap (is_folder_record h) (core_reads image h r e) ∙ dir) in
        let y = find_in (λ f. is_folder_record f (core_at image f)) (reverse (folders_above q)) found.0 found.1 in
        let under = folders_under q found.0 (reverse_in (folders_above q) found.0 y.0) in
        let other = directory_some found.0 (core_at image found.0) y.1 in
        let reads = core_some (record_at image found.0) other.0 other.1 in
        let same = record_at_output image rest.complete plan.jobs no_clash (jb c) inn h i found.0 reads.0 reads.1 (both_above q h found.0 u under) in
        ap (λ o. cond (is_some o) (Some q) (find (λ f. is_folder_record f (core_at image f)) (reverse (folders_above q)))) (ap (option_map core) (member_unrecorded c h q inn i u))
        ∙ found.1 ∙ ap Some (sym same)

    stamp_is :
        (q h : Path) (r : Record) → is_source image q ≡ false → holder image q ≡ Some h → record_at image h ≡ Some r → is_marked_but image restored h ≡ false →
        stamp_now_but image restored q ≡ Some (Made r.made)
    stamp_is q h r source holds reads unmarked =
        ap (λ b. cond b (source_stamp (source_at image q)) (option_and_then (unmarked_stamp_but image restored) (holder image q))) source
        ∙ ap (option_and_then (unmarked_stamp_but image restored)) holds
        ∙ ap (λ b. cond b None (made_stamp (core_at image h))) unmarked
        ∙ ap made_stamp (core_reads image h r reads)

    -- A: what a quiet job makes has a record that speaks for it
    pub quiet_product :
        (n : ℕ) (q : Path) (c : Candidate) → ReachedHere n q → choose flow (sources_of image) q ≡ Make c → Quiet c → (h : Path) × (r : Record) × Product c q h r
    quiet_product n q c reached e quiet = let m = made_place q c e in go m.0 m.1 m.2
      where
        inn : In (jb c) plan.jobs
        inn = in_plan_here n q c reached e

        above : (h : Path) → (q ≡ h) ⊎ (is_under q h ≡ true) × In h (folders_above q) × In h (folders_of (recipe flow plan.lists c)) → Above q h
        above h (inl s) = inl s
        above h (inr u) = inr u.0

        place : (h : Path) → (q ≡ h) ⊎ (is_under q h ≡ true) × In h (folders_above q) × In h (folders_of (recipe flow plan.lists c)) → (q ≡ h) ⊎ (is_under q h ≡ true) × In h (folders_of (recipe flow plan.lists c))
        place h (inl s) = inl s
        place h (inr u) = inr (u.0, u.2)

        holds : (h : Path) (r : Record) → In h (out_paths (recipe flow plan.lists c)) → record_at image h ≡ Some r → r.recipe ≡ recipe flow plan.lists c → (q ≡ h) ⊎ (is_under q h ≡ true) × In h (folders_above q) × In h (folders_of (recipe flow plan.lists c)) → holder image q ≡ Some h
        holds h r i reads same (inl s) = subst (λ w. holder image w ≡ Some h) (sym s) (own_holder h r reads)
        holds h r i reads same (inr u) =
            member_holder c h q r inn i u.0 u.1 reads (in_among (folders_of r.recipe) h (subst (λ rec. In h (folders_of rec)) (sym same) u.2))

        go : (h : Path) → In h (out_paths (recipe flow plan.lists c)) → (q ≡ h) ⊎ (is_under q h ≡ true) × In h (folders_above q) × In h (folders_of (recipe flow plan.lists c)) → (h : Path) × (r : Record) × Product c q h r
        go h i w =
            let r = output_record c h quiet i in
            let held = holds h r.0 i r.1 r.2 w in (
              h,
              r.0,
              record {
                chosen = e;
                is_output = i;
                place = place h w;
                holds = held;
                reads = r.1;
                same = r.2;
                unmarked = r.3;
                stamp = stamp_is q h r.0 ((chosen_viable flow srcs q c e).1) held r.1 r.3;
                agrees = r.4;
                part =
                    value_part act r.0.recipe h q (subst (λ (rec : Recipe). Apart (out_paths rec)) (sym r.2) (own_apart plan.jobs (jb c) apart inn))
                    (subst (λ (rec : Recipe). In h (out_paths rec)) (sym r.2) i) (above h w);
              },
            )

    -- ## what stands

    pub own_outputs : (n : ℕ) (q : Path) (c : Candidate) → ReachedHere n q → choose flow srcs q ≡ Make c → Apart (out_paths (recipe flow plan.lists c))
    own_outputs n q c reached e = own_apart plan.jobs (jb c) apart (in_plan_here n q c reached e)

    -- an output is no member
    pub output_alone : (c : Candidate) (q : Path) → Apart (out_paths (recipe flow plan.lists c)) → In q (out_paths (recipe flow plan.lists c)) → folder_over (recipe flow plan.lists c) q ≡ None
    output_alone c q a i = go (folder_over (recipe flow plan.lists c) q) refl
      where
        go : (o : Option Path) → folder_over (recipe flow plan.lists c) q ≡ o → o ≡ None
        go None e = refl
        go (Some f) e =
            let r = find_in (is_under q) (folders_of (recipe flow plan.lists c)) f e in
            let same = apart_same (out_paths (recipe flow plan.lists c)) q f a i (folders_paths (recipe flow plan.lists c) f r.0) (inr (inl r.1)) in
            absurd (clash_of (is_under q q) (subst (λ w. is_under q w ≡ true) (sym same) r.1) (never_under_itself q))

    -- the directory over a member
    pub member_over :
        (c : Candidate) (h q : Path) → Apart (out_paths (recipe flow plan.lists c)) → is_under q h ≡ true → In h (folders_of (recipe flow plan.lists c)) →
        folder_over (recipe flow plan.lists c) q ≡ Some h
    member_over c h q a u i =
        let found = find_some (is_under q) (folders_of (recipe flow plan.lists c)) h i u in
        let r = find_in (is_under q) (folders_of (recipe flow plan.lists c)) found.0 found.1 in
        let same =
        apart_same (out_paths (recipe flow plan.lists c)) h found.0 a (folders_paths (recipe flow plan.lists c) h i) (folders_paths (recipe flow plan.lists c) found.0 r.0)
        (both_above q h found.0 u r.1) in
        found.1 ∙ ap Some (sym same)

    folder_tree : (h : Path) (t : Tree) → is_folder image h ≡ true → tree_now image h ≡ Some t → Folder (entries image h image.names) ≡ t
    folder_tree h t f e =
        some_inj (Folder (entries image h image.names)) t
        (sym (ap (λ b. cond b (Some (Folder (entries image h image.names))) (option_map File (option_map (λ (f : Content). f.bytes) (content_of (image.node h))))) f) ∙ e)

    file_named : (q : Path) (f : Content) → file_at image q ≡ Some f → In q image.names
    file_named q f e = among_in image.names q (rest.complete.names q ∙ (file_node (image.node q) f e).1)

    names_stand : (h q : Path) → In q (names_under image h) → is_some (image.node q) ≡ true
    names_stand h q i = sym (rest.complete.names q) ∙ in_among image.names q ((filter_in (λ p. is_under p h) image.names q i).0)

    -- D: what is ready, and chained, has what its record vouches for
    pub ready_whole :
        (n : ℕ) (q : Path) (c : Candidate) (h : Path) (r : Record) →
        ReachedHere n q → Product c q h r → IsTrue (is_ready image settings progress plan q) →
        IsTrue (is_whole image h (kind_in r.recipe h))
        × ((t : Tree) → tree_now image h ≡ Some t → (x : Tree) × (tree_now image q ≡ Some x) × (part_at h q t ≡ Some x))
    ready_whole n q c h r reached made ready = go made.place ((ready_parts n q c reached made.chosen ready).1)
      where
        apart_here : Apart (out_paths (recipe flow plan.lists c))
        apart_here = own_outputs n q c reached made.chosen

        go :
            (q ≡ h) ⊎ (is_under q h ≡ true) × In h (folders_of (recipe flow plan.lists c)) → stands_whole image q (jb c) ≡ true →
            IsTrue (is_whole image h (kind_in r.recipe h)) × ((t : Tree) → tree_now image h ≡ Some t → (x : Tree) × (tree_now image q ≡ Some x) × (part_at h q t ≡ Some x))
        go (inl s) whole =
            let alone = output_alone c q apart_here (subst (λ w. In w (out_paths (recipe flow plan.lists c))) (sym s) made.is_output) in
            let w = sym (ap (is_whole_by image q (kind_in (jb c).recipe q)) alone) ∙ whole in (
              subst (λ p. is_whole image p (cond (among (folders_of r.recipe) p) FolderKind Plain) ≡ true) s
                  (subst (λ (rec : Recipe). is_whole image q (cond (among (folders_of rec) q) FolderKind Plain) ≡ true) (sym made.same) w),
              λ t now. (t, subst (λ p. tree_now image p ≡ Some t) (sym s) now, ap (λ b. cond b (Some t) (file_in t (below h q))) (subst (λ p. bytes_eq h p ≡ true) (sym s) (place_itself h))),
            )
        go (inr u) whole =
            let over = member_over c h q apart_here u.0 u.1 in
            let w = sym (ap (is_whole_by image q (kind_in (jb c).recipe q)) over) ∙ whole in
            let dir = and_left (is_whole image h FolderKind) (is_file image q) w in
            let f = some_of (file_at image q) (and_right (is_whole image h FolderKind) (is_file image q) w) in (
              ap (λ b. is_whole image h (cond b FolderKind Plain)) (in_among (folders_of r.recipe) h (subst (λ (rec : Recipe). In h (folders_of rec)) (sym made.same) u.1)) ∙ dir,
              λ t now. (
                File f.0.bytes,
                file_tree image q f.0 f.1,
                subst (λ x. part_at h q x ≡ Some (File f.0.bytes)) (folder_tree h t (and_left (is_folder image h) _ dir) now) (file_found image h q f.0 (file_named q f.0 f.1) f.1 u.0),
              ),
            )

    -- E: the listing of a directory that a quiet job gathers from is known where it is ready
    pub known :
        (c : Candidate) (q : Path) → Quiet c → In q (gathered_folders flow c) → IsTrue (is_ready image settings progress plan q) →
        (files : List Path) × (listing plan.lists q ≡ Some files)
    known c q quiet inn ready =
        let missing = any_none (λ d. is_ready image settings progress plan d && is_none (listing plan.lists d)) (gathered_folders flow c) q (or_left _ _ (or_right _ _ quiet.shut)) inn in
        go (listing plan.lists q) (or_right_of (is_ready image settings progress plan q) (is_none (listing plan.lists q)) ready missing)
      where
        or_right_of : (a b : Bool) → a ≡ true → (a && b) ≡ false → b ≡ false
        or_right_of true b x y = y
        or_right_of false b x y = absurd (true≢false (sym x))

        go : (o : Option (List Path)) → is_none o ≡ false → (files : List Path) × (o ≡ Some files)
        go None k = absurd (true≢false k)
        go (Some files) k = (files, refl)

    -- what stands at a product that is ready has the files of its record
    pub listed :
        (n : ℕ) (q : Path) (d : Candidate) (h : Path) (r : Record) (t : Tree) →
        ReachedHere n q → Product d q h r → IsTrue (is_ready image settings progress plan q) →
        tree_now image q ≡ Some t → files_of t ≡ files_listed image q
    listed n q d h r t reached made ready now = standing made.place ((ready_parts n q d reached made.chosen ready).1)
      where
        file_names : is_file image q ≡ true → files_of t ≡ []
        file_names f = let g = some_of (file_at image q) f in sym (ap files_of (some_inj (File g.0.bytes) t (sym (file_tree image q g.0 g.1) ∙ now)))

        kinds : (b : Bool) → among (folders_of (recipe flow plan.lists d)) q ≡ b → q ≡ h → is_whole image q (cond b FolderKind Plain) ≡ true → files_of t ≡ names_of (members_of (record_at image q))
        kinds true b s w =
            let same = members_same (members_under image q) (members_of (record_at image q)) (and_right (is_some (record_at image q)) _ (and_right (is_folder image q) _ w)) in
            sym (ap files_of (folder_tree q t (and_left (is_folder image q) _ w) now))
            ∙ listed_under image q (names_stand q) ∙ ap names_of same
        kinds false b s w =
            let reads = subst (λ w. record_at image w ≡ Some r) (sym s) made.reads in
            let valid = rest.valid q r reads in
            let none = plain_record r valid.1 (ap (among (folders_of r.recipe)) valid.0 ∙ (ap (λ (rec : Recipe). among (folders_of rec) q) made.same ∙ b)) in
            file_names w ∙ sym (ap (λ o. names_of (members_of o)) reads ∙ ap names_of none)

        standing : (q ≡ h) ⊎ (is_under q h ≡ true) × In h (folders_of (recipe flow plan.lists d)) → stands_whole image q (jb d) ≡ true → files_of t ≡ names_of (members_of (record_at image q))
        standing (inl s) whole =
            let alone = output_alone d q (own_outputs n q d reached made.chosen) (subst (λ w. In w (out_paths (recipe flow plan.lists d))) (sym s) made.is_output) in
            kinds (among (folders_of (recipe flow plan.lists d)) q) refl s (sym (ap (is_whole_by image q (kind_in (jb d).recipe q)) alone) ∙ whole)
        standing (inr u) whole =
            let over = member_over d h q (own_outputs n q d reached made.chosen) u.0 u.1 in
            let w = sym (ap (is_whole_by image q (kind_in (jb d).recipe q)) over) ∙ whole in
            file_names (and_right (is_whole image h FolderKind) (is_file image q) w)
            ∙ sym (ap (λ o. names_of (members_of o)) (member_unrecorded d h q (in_plan_here n q d reached made.chosen) made.is_output u.0))

    -- no files are listed of a source
    pub source_listed : (q : Path) → is_source image q ≡ true → files_listed image q ≡ []
    source_listed q h = ap (λ o. names_of (members_of o)) (unrecorded (record_at image q) refl)
      where
        uncovered : is_known image q ≡ false
        uncovered = or_left _ _ (not_true (is_covered image q) (and_right (is_file image q) _ (and_right (is_path_text q) _ h)))

        unrecorded : (o : Option Record) → record_at image q ≡ o → o ≡ None
        unrecorded None e = refl
        unrecorded (Some r) e = absurd (clash_of (stands (image.kept q)) ((record_stands image rest.complete q r e).0) (or_left _ _ uncovered))
