-- The folder with the marks and notes that are known: what is judged of it is judged of the folder as it is, while children run.
use Rattle.std.proofs.Common.{◌≡◌, ℕ, zero, suc, Bool, true, false, cond, not, ◌&&◌, ◌||◌, ◌==◌, List, [], ◌∷◌, ◌++◌, map, Option, Some, None, is_some, option_map, refl, sym, ap, ap₂, inl, inr, ◌∙◌, bytes_eq}
use Rattle.std.specs.Prelude.{◌⊎◌, if◌then◌else◌, is_none}
use Rattle.std.specs.List.{filter, find, flat_map, list_any}
use Rattle.std.specs.Option.{option_and_then}
use Rattle.std.proofs.Math.Bool.{and-true, and-false}
use Rattle.std.proofs.lemmas.Bool.{eqb-true, eqb-false}
use Rattle.std.proofs.lemmas.Option.{same_Some}
use Rattle.smk_record.specs.declared.record.Stamp.{Stamp}
use Rattle.smk_base.proofs.Places.{and_first, and_second, place_itself}
use Rattle.smk_base.proofs.Under.{never_both, false_unless, or_first, or_second, or_cases, both_true}
use Rattle.smk_world.specs.World.{in_paths, out_paths, folders_above}
use Rattle.smk_world.specs.Trees.{Path, Each, among, first, is_path_text}
use Rattle.smk_flow.specs.declared.job.Job.{Job}
use Rattle.smk_store.specs.declared.store.Entry.{Entry}
use Rattle.smk_store.specs.Images.{Image, core_at, file_at, is_covered, is_file, is_known, is_source, stands}
use Rattle.smk_store.specs.Loading.{IsStoreOf}
use Rattle.smk_store.specs.Stores.{Known, entry_of, is_covered_in}
use Rattle.smk_store.specs.Trust.{holder, is_marked_but, made_stamp, source_stamp, stamp_now_but}
use Rattle.smk_chain.specs.declared.jobs.Jobs.{Jobs}
use Rattle.smk_trigger.specs.declared.reason.Reason.{Reason}
use Rattle.smk_trigger.specs.declared.reason.Reason.TheVariants.{Upstream, Forced}
use Rattle.smk_trigger.specs.declared.reason.State.{State}
use Rattle.smk_trigger.specs.declared.reason.State.TheVariants.{Open}
use Rattle.smk_trigger.specs.JobStates.{is_dirty, is_restore}
use Rattle.smk_trigger.specs.Reasons.{own_reasons, when}
use Rattle.smk_pick.specs.declared.settings.Settings.{Settings}
use Rattle.smk_plan.specs.declared.fault.PlanFault.{PlanFault}
use Rattle.smk_plan.specs.declared.plan.Plan.{Plan as Told}
use Rattle.smk_plan.specs.declared.seen.Sight.{Sight}
use Rattle.smk_plan.specs.States.{Plan, Progress, by_reasons, is_current, is_forced, is_held_back, is_open_now, is_read_now, is_ready, is_restored, is_to_restore, job_path, kept_state, made_by, reasons, state_of, test_some, while_running}
use Rattle.smk_plan.specs.Sights.{job_at}
use Rattle.smk_plan.specs.Summed.{IsSummed}
use Rattle.smk_chain.specs.Derive.{distinct}
use Rattle.smk_drive.specs.Moments.{Rules}
use Rattle.smk_drive.specs.Refusals.{above_limit, ahead, guarded, incomplete, of_command, refused_of, unless_empty}
use Rattle.smk_plan.specs.States.{staged}
use Rattle.smk_plan_facts.specs.Facts.{told_sources}
use Rattle.smk_plan_facts.specs.Telling.{kept_of, mark_of}
use Rattle.smk_plan_facts.proofs.Tests.{map_each, each_of, each_two, each_among}
use Rattle.smk_plan_states.specs.Judged.{AreStates, any_held_back, with_states}
use Rattle.smk_plan_states.specs.Served.{AreApart, outputs_of}
use Rattle.smk_plan_table.specs.Plans.{Agree, HasMadeAt, IsRefusedAt, IsUnrefused, targets_current}
use Rattle.smk_plan_live.specs.Agreeing.{AgreesNow, AreTold, is_source_by, note_of}
use Rattle.smk_plan_live.proofs.Same.{outputs_apart}
use Rattle.smk_plan_live.proofs.Restoring.{any_at, at_same}

-- ## Lists

any_same : {A : Type 0} (f g : A → Bool) (xs : List A) → Each (λ x. f x ≡ g x) xs → list_any f xs ≡ list_any g xs
any_same f g [] h = refl
any_same f g (x ∷ xs) h = ap₂ (λ a b. a || b) h.0 (any_same f g xs h.1)

any_kept : {A : Type 0} (f g : A → Bool) → ((x : A) → f x ≡ true → g x ≡ true) → (xs : List A) → list_any f xs ≡ true → list_any g xs ≡ true
any_kept f g more [] h = h
any_kept f g more (x ∷ xs) h = go (or_cases (f x) (list_any f xs) h) (any_kept f g more xs)
  where
    go : (f x ≡ true) ⊎ (list_any f xs ≡ true) → (list_any f xs ≡ true → list_any g xs ≡ true) → list_any g (x ∷ xs) ≡ true
    go (inl e) rest = or_first (g x) (list_any g xs) (more x e)
    go (inr e) rest = or_second (g x) (list_any g xs) (rest e)

filter_same : {A : Type 0} (f g : A → Bool) (xs : List A) → Each (λ x. f x ≡ g x) xs → filter f xs ≡ filter g xs
filter_same f g [] h = refl
filter_same f g (x ∷ xs) h = ap₂ (λ b ys. cond b (x ∷ ys) ys) h.0 (filter_same f g xs h.1)

each_all : {A : Type 0} (P : A → Type 0) → ((x : A) → P x) → (xs : List A) → Each P xs
each_all P h [] = tt
each_all P h (x ∷ xs) = (h x, each_all P h xs)

each_append : (P : Path → Type 0) (ps qs : List Path) → Each P ps → Each P qs → Each P (ps ++ qs)
each_append P [] qs h k = k
each_append P (p ∷ ps) qs h k = (h.0, each_append P ps qs h.1 k)

-- ## Outputs of jobs whose child doesn't run

each_numbered : (P : Job → Type 0) (js : List Job) → ((m : ℕ) (k : Job) → job_at js m ≡ Some k → P k) → Each P js
each_numbered P [] h = tt
each_numbered P (k ∷ js) h = (h zero k refl, each_numbered P js (λ m x e. h (suc m) x e))

each_in : (P : Path → Type 0) (ps : List Path) → ((q : Path) → among ps q ≡ true → P q) → Each P ps
each_in P [] h = tt
each_in P (p ∷ ps) h =
    (h p (or_first (bytes_eq p p) (among ps p) (place_itself p)), each_in P ps (λ q a. h q (or_second (bytes_eq q p) (among ps q) a)))

each_chosen : (P : Path → Type 0) (test : Job → Bool) (js : List Job) → Each (λ (j : Job). test j ≡ true → Each P (out_paths j.recipe)) js →
    Each P (flat_map (λ (j : Job). out_paths j.recipe) (filter test js))
each_chosen P test [] h = tt
each_chosen P test (j ∷ js) h = go (test j) refl (each_chosen P test js h.1)
  where
    go : (b : Bool) → test j ≡ b → Each P (flat_map (λ (k : Job). out_paths k.recipe) (filter test js)) →
        Each P (flat_map (λ (k : Job). out_paths k.recipe) (cond b (j ∷ filter test js) (filter test js)))
    go true e more = each_append P (out_paths j.recipe) (flat_map (λ (k : Job). out_paths k.recipe) (filter test js)) (h.0 e) more
    go false e more = more

idle_keeps :
    {A B : Type 0} (test : A → Bool) (f : A → B) (passes : B → Bool) (xs : List A) → not (list_any test xs) ≡ true →
    test_some passes (option_map f (find test xs)) ≡ false
idle_keeps test f passes [] h = refl
idle_keeps test f passes (x ∷ xs) h = go (test x) h (idle_keeps test f passes xs)
  where
    go : (b : Bool) → not (b || list_any test xs) ≡ true → (not (list_any test xs) ≡ true → test_some passes (option_map f (find test xs)) ≡ false) →
        test_some passes (option_map f (cond b (Some x) (find test xs))) ≡ false
    go true k more = absurd (never_both false k refl)
    go false k more = more k

module _ (image : Image) (settings : Settings) (progress : Progress) (jobs : Jobs) (apart : AreApart (outputs_of jobs.jobs)) where
  abbrev rests : Job → Bool
  rests j = not (list_any (λ (e : Path × State). bytes_eq e.0 (job_path j)) progress.running)

  abbrev runs_restoring : Job → Bool
  runs_restoring j = test_some is_restore (kept_state image settings progress (with_states jobs []) j)

  none_restored :
      (n : ℕ) (k : Job) → job_at jobs.jobs n ≡ Some k → rests k ≡ true → (q : Path) → among (out_paths k.recipe) q ≡ true →
      is_restored image settings progress (with_states jobs []) q ≡ false
  none_restored n k at idle q own = false_unless (is_restored image settings progress (with_states jobs []) q) never
    where
      by_number :
          (m : ℕ) (j : Job) → job_at jobs.jobs m ≡ Some j → runs_restoring j ≡ true → among (out_paths j.recipe) q ≡ true → (b : Bool) → (m == n) ≡ b → ⊥
      by_number m j it runs has true e =
          let same : j ≡ k = same_Some j k (sym it ∙ ap (job_at jobs.jobs) (eqb-true m n e) ∙ at) in
          never_both (runs_restoring k) (ap runs_restoring (sym same) ∙ runs)
          (idle_keeps (λ (x : Path × State). bytes_eq x.0 (job_path k)) (λ (x : Path × State). x.1) is_restore progress.running idle)
      by_number m j it runs has false e = outputs_apart jobs.jobs m n j k apart (eqb-false m n e) it at q has own

      never : is_restored image settings progress (with_states jobs []) q ≡ true → ⊥
      never h =
          let r = any_at (λ j. runs_restoring j && among (out_paths j.recipe) q) jobs.jobs h in
          let it = sym (at_same jobs.jobs (r.0)) ∙ r.2 in
          by_number (r.0) (r.1) it (and_first (runs_restoring (r.1)) (among (out_paths (r.1).recipe) q) r.3)
          (and_second (runs_restoring (r.1)) (among (out_paths (r.1).recipe) q) r.3) (r.0 == n) refl

  -- no output of a job whose child doesn't run is being restored
  pub idle_unrestored :
      Each (λ q. is_restored image settings progress (with_states jobs []) q ≡ false) (flat_map (λ (j : Job). out_paths j.recipe) (filter rests jobs.jobs))
  idle_unrestored =
      each_chosen (λ q. is_restored image settings progress (with_states jobs []) q ≡ false) rests jobs.jobs
      (each_numbered (λ k. rests k ≡ true → Each (λ q. is_restored image settings progress (with_states jobs []) q ≡ false) (out_paths k.recipe)) jobs.jobs
      (λ n k at idle. each_in (λ q. is_restored image settings progress (with_states jobs []) q ≡ false) (out_paths k.recipe) (none_restored n k at idle)))

-- ## What is known of a path stands in the folder

-- something is left of each entry
abbrev pub AreLeft : List Known → Type 0
AreLeft known = (p : Path) (e : Entry) → entry_of known p ≡ Some e → (stands e.kept || (e.marked || e.noted)) ≡ true

-- the folder with the marks and notes that are known
abbrev pub as_known : Image → List Known → Image
as_known image known = record image { marked = λ p. mark_of (entry_of known p); noted = λ p. note_of (entry_of known p) }

-- what an entry tells, where something is left of it
entry_told : (o : Option Entry) → ((e : Entry) → o ≡ Some e → (stands e.kept || (e.marked || e.noted)) ≡ true) →
    o ≡ (if stands (kept_of o) || (mark_of o || note_of o) then Some (record { kept = kept_of o; marked = mark_of o; noted = note_of o }) else None)
entry_told None left = refl
entry_told (Some e) left = ap (λ (b : Bool). if b then Some e else None) (sym (left e refl))

some_told :
    (o : Option Entry) → ((e : Entry) → o ≡ Some e → (stands e.kept || (e.marked || e.noted)) ≡ true) → is_some o
    ≡ (stands (kept_of o) || (mark_of o || note_of o))
some_told None left = refl
some_told (Some e) left = sym (left e refl)

module _ (image : Image) (known : List Known) (left : AreLeft known) (kept : (p : Path) → kept_of (entry_of known p) ≡ image.kept p) where
  known_told : (p : Path) → is_some (entry_of known p) ≡ is_known (as_known image known) p
  known_told p =
      some_told (entry_of known p) (left p) ∙ ap (λ k. stands k || (mark_of (entry_of known p) || note_of (entry_of known p))) (kept p)

  -- the store has what is known just so
  pub known_stored : IsStoreOf (as_known image known) known
  known_stored =
      record {
        entries = λ p.
            entry_told (entry_of known p) (left p)
            ∙ ap
            (λ k.
            if stands k || (mark_of (entry_of known p) || note_of (entry_of known p))
            then Some (record { kept = k; marked = mark_of (entry_of known p); noted = note_of (entry_of known p) })
            else None)
            (kept p);
        covered = λ p. λ i. list_any (λ q. known_told q i) (p ∷ folders_above p);
      }

-- ## The folder as it counts

module _
    (image : Image) (settings : Settings) (progress : Progress) (jobs : Jobs) (known : List Known) (seen : List Sight)
    (agrees : AgreesNow image settings progress jobs known seen) (left : AreLeft known) where
  -- the folder as it counts
  abbrev pub counted : Image
  counted = as_known image known

  abbrev restored : Path → Bool
  restored = is_restored image settings progress (with_states jobs [])

  abbrev told : Path → Bool
  told = among (told_sources jobs.makers)

  -- ### Marks

  pub mark_same : (q : Path) → is_marked_but counted restored q ≡ is_marked_but image restored q
  mark_same q = ap (λ b. b && not (restored q)) (agrees.marks q) ∙ twice (image.marked q) (restored q)
    where
      twice : (a b : Bool) → ((a && not b) && not b) ≡ (a && not b)
      twice true true = refl
      twice true false = refl
      twice false b = refl

  -- no mark of what is being restored counts
  pub unmarked : (q : Path) → restored q ≡ true → counted.marked q ≡ false
  unmarked q h = agrees.marks q ∙ ap (λ b. image.marked q && not b) h ∙ and-false (image.marked q)

  -- ### Sources

  known_stands : (q : Path) → is_some (entry_of known q) ≡ true → is_known image q ≡ true
  known_stands q h =
      by_parts (or_cases (stands (kept_of (entry_of known q))) (mark_of (entry_of known q) || note_of (entry_of known q))
      (sym (some_told (entry_of known q) (left q)) ∙ h))
    where
      later : (mark_of (entry_of known q) ≡ true) ⊎ (note_of (entry_of known q) ≡ true) → is_known image q ≡ true
      later (inl e) =
          or_second (stands (image.kept q)) (image.marked q || image.noted q)
          (or_first (image.marked q) (image.noted q) (and_first (image.marked q) (not (restored q)) (sym (agrees.marks q) ∙ e)))
      later (inr e) =
          or_second (stands (image.kept q)) (image.marked q || image.noted q) (or_second (image.marked q) (image.noted q) (agrees.notes q e))

      by_parts : (stands (kept_of (entry_of known q)) ≡ true) ⊎ ((mark_of (entry_of known q) || note_of (entry_of known q)) ≡ true) → is_known image q ≡ true
      by_parts (inl e) = or_first (stands (image.kept q)) (image.marked q || image.noted q) (sym (ap stands (agrees.kept q)) ∙ e)
      by_parts (inr e) = later (or_cases (mark_of (entry_of known q)) (note_of (entry_of known q)) e)

  -- what is covered by what is known is covered
  covered_stands : (q : Path) → is_covered_in known q ≡ true → is_covered image q ≡ true
  covered_stands q h = any_kept (λ p. is_some (entry_of known p)) (is_known image) known_stands (q ∷ folders_above q) h

  covered_counted : (q : Path) → is_covered counted q ≡ is_covered_in known q
  covered_counted q = sym ((known_stored image known left agrees.kept).covered q)

  source_counted : (q : Path) → is_source counted q ≡ is_source_by image known q
  source_counted q = ap (λ b. is_path_text q && (is_file image q && not b)) (covered_counted q)

  -- a source is one by what is known
  source_known : (q : Path) → is_source image q ≡ true → is_source_by image known q ≡ true
  source_known q h =
      let text = and_first (is_path_text q) (is_file image q && not (is_covered image q)) h in
      let rest = and_second (is_path_text q) (is_file image q && not (is_covered image q)) h in
      let file = and_first (is_file image q) (not (is_covered image q)) rest in
      let free = and_second (is_file image q) (not (is_covered image q)) rest in
      both_true (is_path_text q) (is_file image q && not (is_covered_in known q)) text
      (both_true (is_file image q) (not (is_covered_in known q)) file (uncovered (is_covered_in known q) refl free))
    where
      uncovered : (b : Bool) → is_covered_in known q ≡ b → not (is_covered image q) ≡ true → not b ≡ true
      uncovered true e free = sym (ap not (covered_stands q e)) ∙ free
      uncovered false e free = refl

  -- what is told of as a source where it is one by what is known is a source just where it is one by what is known
  pub source_same : (q : Path) → (is_source_by image known q ≡ true → told q ≡ true) → is_source counted q ≡ is_source image q
  source_same q asked = source_counted q ∙ go (told q) refl
    where
      go : (b : Bool) → told q ≡ b → is_source_by image known q ≡ is_source image q
      go true e =
          ap (λ b. is_path_text q && (is_file image q && not b))
          (each_among (λ p. is_covered_in known p ≡ is_covered image p) (told_sources jobs.makers) q agrees.covered e)
      go false e =
          let none : is_source_by image known q ≡ false = false_unless (is_source_by image known q) (λ h. never_both (told q) (asked h) e) in
          none ∙ sym (false_unless (is_source image q) (λ h. never_both (is_source_by image known q) (source_known q h) none))

  -- each input of the job is a source just where it counts as one
  abbrev AreSame : List Path → Type 0
  AreSame = Each (λ q. is_source counted q ≡ is_source image q)

  inputs_same : Each (λ (j : Job). AreSame (in_paths j.recipe)) jobs.jobs
  inputs_same =
      each_of (λ (j : Job). AreTold image jobs known (in_paths j.recipe)) (λ (j : Job). AreSame (in_paths j.recipe))
      (λ j. each_of (λ q. is_source_by image known q ≡ true → told q ≡ true) (λ q. is_source counted q ≡ is_source image q) source_same
      (in_paths j.recipe)) jobs.jobs agrees.read

  targets_same : AreSame settings.targets
  targets_same =
      each_of (λ q. is_source_by image known q ≡ true → told q ≡ true) (λ q. is_source counted q ≡ is_source image q) source_same settings.targets agrees.asked

  -- what is known and seen is so in the folder as it counts
  pub counted_agrees : Agree counted jobs known seen settings.targets
  counted_agrees =
      record {
        named = agrees.named;
        recorded = agrees.recorded;
        stored = known_stored image known left agrees.kept;
        sighted = record { outputs = agrees.sighted.outputs; sources = agrees.sighted.sources };
        summed =
            each_two (λ (j : Job). AreSame (in_paths j.recipe)) (λ (j : Job). Each (IsSummed image seen j) (in_paths j.recipe))
            (λ (j : Job). Each (IsSummed counted seen j) (in_paths j.recipe))
            (λ j. each_two (λ q. is_source counted q ≡ is_source image q) (IsSummed image seen j) (IsSummed counted seen j)
            (λ q same summed f at. summed f (sym (ap (λ b. if b then file_at image q else None) same) ∙ at)) (in_paths j.recipe))
            jobs.jobs inputs_same agrees.summed;
        served = agrees.served;
        made = agrees.made;
        read =
            each_of (λ (j : Job). AreTold image jobs known (in_paths j.recipe))
            (λ (j : Job). Each (λ q. is_source counted q ≡ true → told q ≡ true) (in_paths j.recipe))
            (λ j. each_of (λ q. is_source_by image known q ≡ true → told q ≡ true) (λ q. is_source counted q ≡ true → told q ≡ true) source_told
            (in_paths j.recipe)) jobs.jobs agrees.read;
        asked =
            each_of (λ q. is_source_by image known q ≡ true → told q ≡ true)
            (λ q. is_source counted q ≡ true → told q ≡ true) source_told settings.targets agrees.asked;
      }
    where
      source_told : (q : Path) → (is_source_by image known q ≡ true → told q ≡ true) → is_source counted q ≡ true → told q ≡ true
      source_told q asked h = asked (sym (source_counted q) ∙ h)

  -- ### States

  stamp_same : (q : Path) → is_source counted q ≡ is_source image q → stamp_now_but counted restored q ≡ stamp_now_but image restored q
  stamp_same q same = λ i.
      if same i then source_stamp (if same i then file_at image q else None)
      else option_and_then (λ h. if mark_same h i then None else made_stamp (core_at image h)) (holder image q)

  abbrev stamped : Image → Path → Path × Option Stamp
  stamped at q = (q, stamp_now_but at restored q)

  module _ (states : List State) where
    abbrev plan : Plan
    plan = with_states jobs states

    abbrev reasons_by : Job → List Bool → List (Path × Option Stamp) → List Reason
    reasons_by j marked now =
        own_reasons j.recipe (map image.kept (out_paths j.recipe)) marked now
        ++ (map Upstream (filter (made_by plan is_dirty) (distinct bytes_eq (in_paths j.recipe))) ++ when (is_forced image settings progress plan j) Forced)

    reasons_same : (j : Job) → AreSame (in_paths j.recipe) → reasons counted settings progress plan j ≡ reasons image settings progress plan j
    reasons_same j same =
        ap₂ (reasons_by j) (λ i. map (λ q. mark_same q i) (out_paths j.recipe))
        (map_each (stamped counted) (stamped image) (in_paths j.recipe)
        (each_of (λ q. is_source counted q ≡ is_source image q) (λ q. stamped counted q ≡ stamped image q) (λ q is. ap (λ s. (q, s)) (stamp_same q is))
        (in_paths j.recipe) same))

    abbrev state_by : Job → List Reason → State
    state_by j found =
        while_running (kept_state image settings progress plan j)
        (if is_open_now image settings progress plan j then Open else by_reasons found
        (is_to_restore image settings progress plan j && not (is_read_now image settings progress plan j)))

    state_same : (j : Job) → AreSame (in_paths j.recipe) → state_of counted settings progress plan j ≡ state_of image settings progress plan j
    state_same j same = ap (state_by j) (reasons_same j same)

    pub states_same :
        AreStates (record { image = counted; settings = settings; progress = progress }) jobs states →
        AreStates (record { image = image; settings = settings; progress = progress }) jobs states
    states_same table =
        table
        ∙ map_each (state_of counted settings progress plan) (state_of image settings progress plan) jobs.jobs
        (each_of (λ (j : Job). AreSame (in_paths j.recipe))
        (λ (j : Job). state_of counted settings progress plan j ≡ state_of image settings progress plan j) state_same jobs.jobs inputs_same)

    abbrev held_by : Job → List Reason → Bool
    held_by j found =
        is_none (kept_state image settings progress plan j)
        && (not (is_open_now image settings progress plan j)
        && (is_none (first found) && (is_to_restore image settings progress plan j && is_read_now image settings progress plan j)))

    pub held_same :
        any_held_back (record { image = counted; settings = settings; progress = progress }) jobs states
        ≡ any_held_back (record { image = image; settings = settings; progress = progress }) jobs states
    held_same =
        any_same (is_held_back counted settings progress plan) (is_held_back image settings progress plan) jobs.jobs
        (each_of (λ (j : Job). AreSame (in_paths j.recipe))
        (λ (j : Job). is_held_back counted settings progress plan j ≡ is_held_back image settings progress plan j)
        (λ j same. ap (held_by j) (reasons_same j same)) jobs.jobs inputs_same)

    current_same :
        targets_current (record { image = counted; settings = settings; progress = progress }) jobs states
        ≡ targets_current (record { image = image; settings = settings; progress = progress }) jobs states
    current_same =
        map_each (is_current counted settings progress plan) (is_current image settings progress plan) settings.targets
        (each_of (λ q. is_source counted q ≡ is_source image q) (λ q. is_current counted settings progress plan q ≡ is_current image settings progress plan q)
        (λ q same. ap (λ b. b || is_ready image settings progress plan q) same) settings.targets targets_same)

    -- ### Refusals

    module _ (rules : Rules) where
      -- a job whose child doesn't run
      abbrev is_idle : Job → Bool
      is_idle j = not (list_any (λ (e : Path × State). bytes_eq e.0 (job_path j)) progress.running)

      abbrev idle_outputs : List Job → List Path
      idle_outputs js = flat_map (λ (j : Job). out_paths j.recipe) (filter is_idle js)

      incomplete_same : incomplete rules counted progress plan ≡ incomplete rules image progress plan
      incomplete_same =
          ap (λ ps. if rules.settings.rerun_incomplete then [] else unless_empty ps)
          (filter_same counted.marked image.marked (idle_outputs jobs.jobs)
          (each_of (λ q. restored q ≡ false) (λ q. counted.marked q ≡ image.marked q)
          (λ q none. agrees.marks q ∙ ap (λ b. image.marked q && not b) none ∙ and-true (image.marked q)) (idle_outputs jobs.jobs)
          (idle_unrestored image settings progress jobs agrees.served.apart)))

      unrefused_same : IsUnrefused rules counted progress plan → IsUnrefused rules image progress plan
      unrefused_same h = record { complete = sym incomplete_same ∙ h.complete; unguarded = h.unguarded; within = h.within }

      refused_same : refused_of rules counted progress plan ≡ refused_of rules image progress plan
      refused_same =
          ap
          (λ fs.
          fs
          ++ (guarded rules image progress plan
          ++ (flat_map (above_limit rules image progress plan) (ahead rules image progress plan)
          ++ flat_map (λ (e : Job × State). of_command rules image progress plan e (rules.missing e.0)) (staged plan))))
          incomplete_same

  -- what is told of the folder as it counts is told of the folder
  pub made_same :
      (made : Told) → HasMadeAt (record { image = counted; settings = settings; progress = progress }) jobs made →
      HasMadeAt (record { image = image; settings = settings; progress = progress }) jobs made
  made_same made h =
      record {
        states = states_same made.states h.states;
        current = h.current ∙ current_same made.states;
        known = h.known;
        unrefused = λ rules same. unrefused_same made.states rules (h.unrefused rules same);
      }

  pub refusal_same :
      (fault : PlanFault) → IsRefusedAt (record { image = counted; settings = settings; progress = progress }) jobs fault →
      IsRefusedAt (record { image = image; settings = settings; progress = progress }) jobs fault
  refusal_same fault h =
      record {
        states = h.states;
        table = states_same h.states h.table;
        first = λ rules same. let r = h.first rules same in (r.0, sym (refused_same h.states rules) ∙ r.1);
      }
