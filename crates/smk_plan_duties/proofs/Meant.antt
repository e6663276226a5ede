-- The duties are those that the states call for, where these are the states of the table.
use Rattle.std.proofs.Common.{◌≡◌, ℕ, zero, suc, ◌<◌, Bool, true, false, cond, ◌&&◌, ◌||◌, not, List, [], ◌∷◌, ◌++◌, map, length, Option, Some, None, refl, sym, ap, subst, ◌∙◌, arith, append_assoc, append-nil, bytes_eq}
use Rattle.std.specs.Prelude.{if◌then◌else◌, is_some, option_map, nat_le, nat_lt, slice_get}
use Rattle.std.specs.List.{filter, find, flat_map, list_all, list_any, zip}
use Rattle.std.specs.Option.{option_and_then}
use Rattle.smk_base.proofs.Places.{place_itself, same_flipped, same_place}
use Rattle.smk_base.proofs.Under.{both_true, never_both, or_first, or_second}
use Rattle.smk_world.specs.World.{in_paths, out_paths}
use Rattle.smk_world.specs.Trees.{Path, Each, among, first}
use Rattle.smk_record.specs.declared.record.Record.{Record}
use Rattle.smk_record.specs.Records.{core, is_valid}
use Rattle.smk_flow.specs.declared.job.Job.{Job}
use Rattle.smk_store.specs.declared.store.Kept.TheVariants.{Held}
use Rattle.smk_store.specs.Images.{Image, core_at, readable}
use Rattle.smk_store.specs.Loading.{IsStoreOf}
use Rattle.smk_store.specs.Serials.{next_serial}
use Rattle.smk_store.specs.Stores.{Known, entry_of}
use Rattle.smk_store.specs.Trust.{stamp_now}
use Rattle.smk_chain.specs.declared.jobs.Jobs.{Jobs}
use Rattle.smk_chain.specs.declared.jobs.Maker.{Maker}
use Rattle.smk_chain.specs.Derive.{distinct}
use Rattle.smk_trigger.specs.declared.reason.Reason.{Reason}
use Rattle.smk_trigger.specs.declared.reason.Reason.TheVariants.{Upstream}
use Rattle.smk_trigger.specs.declared.reason.State.{State}
use Rattle.smk_trigger.specs.declared.reason.State.TheVariants.{Open, Dirty, Restore, Clean}
use Rattle.smk_trigger.specs.JobStates.{is_clean, is_dirty, is_open, is_restore}
use Rattle.smk_trigger.specs.Reasons.{changes, changes_from, has_bad_record, held, lacks_record}
use Rattle.smk_pick.specs.declared.settings.Settings.{Settings}
use Rattle.smk_plan.specs.States.{Plan, by_reasons, is_open_now, made_by, makes, gathers_from, reasons, state_of, test_some}
use Rattle.smk_plan.specs.Sights.{job_at}
use Rattle.smk_plan_facts.specs.Facts.{having_run, facts_of, own_of}
use Rattle.smk_plan_facts.proofs.Tests.{each_among, each_found, each_of, each_two, find_passes}
use Rattle.smk_plan_facts.proofs.Reasoned.{exact_reason}
use Rattle.smk_plan_states.specs.Judged.{with_states}
use Rattle.smk_plan_states.specs.Served.{IsBelow, IsToldOf, ReadEarlier}
use Rattle.smk_plan.specs.declared.duty.Duty.{Duty}
use Rattle.smk_plan.specs.declared.duty.Duty.TheVariants.{Rest, Restore as Again, Run}
use Rattle.smk_plan.specs.Duties.{maker_in}
use Rattle.smk_plan_duties.specs.Choosing.{duties_in, duty_by, is_able, is_input_below, is_job_below, is_kept_below, is_old, made_in, made_of, resting, restoring}
use Rattle.smk_plan_duties.specs.Meaning.{AreKeptWith, AreMeant, IsMeant, IsPlanned, IsSpokenFor}
use Rattle.smk_plan_duties.proofs.Kept.{first_kept, input_below, made_positive, made_there, map_nil, old_there, split_parts, stamp_spoken, IsKept}
use Rattle.smk_plan_duties.proofs.Served.{rest_rests}

-- ## Lists

nil_both : {A : Type 0} (xs ys : List A) → xs ++ ys ≡ [] → (xs ≡ []) × (ys ≡ [])
nil_both [] ys e = (refl, e)
nil_both (x ∷ xs) ys e = absurd cc

each_self : (ps : List Path) → Each (λ q. among ps q ≡ true) ps
each_self [] = tt
each_self (p ∷ ps) =
    (or_first (bytes_eq p p) (among ps p) (place_itself p), each_of (λ q. among ps q ≡ true) (λ q. among (p ∷ ps) q ≡ true) (λ q h. or_second (bytes_eq q p) (among ps q) h) ps (each_self ps))

all_of_each : (t : Path → Bool) (ps : List Path) → Each (λ q. t q ≡ true) ps → list_all t ps ≡ true
all_of_each t [] h = refl
all_of_each t (p ∷ ps) h = both_true (t p) (list_all t ps) h.0 (all_of_each t ps h.1)

each_front : (P : Path → Type 0) (xs ys : List Path) → Each P (xs ++ ys) → Each P xs
each_front P [] ys h = tt
each_front P (x ∷ xs) ys h = (h.0, each_front P xs ys h.1)

job_more : (xs ys : List Job) (n : ℕ) (j : Job) → job_at xs n ≡ Some j → job_at (xs ++ ys) n ≡ Some j
job_more [] ys n j e = absurd (no_some e)
  where
    no_some : None ≡ Some j → ⊥
    no_some c = cc
job_more (x ∷ xs) ys zero j e = e
job_more (x ∷ xs) ys (suc n) j e = job_more xs ys n j e

none_of : (t : Path → Bool) (ps : List Path) (q : Path) → list_any t ps ≡ false → among ps q ≡ true → t q ≡ false
none_of t [] q h at = absurd (never_both false at refl)
none_of t (p ∷ ps) q h at = go (bytes_eq q p) refl at (none_of t ps q)
  where
    first_none : (a b : Bool) → (a || b) ≡ false → a ≡ false
    first_none true b k = k
    first_none false b k = refl

    second_none : (a b : Bool) → (a || b) ≡ false → b ≡ false
    second_none true b k = absurd (never_both true refl k)
    second_none false b k = k

    go : (b : Bool) → bytes_eq q p ≡ b → (b || among ps q) ≡ true → (list_any t ps ≡ false → among ps q ≡ true → t q ≡ false) → t q ≡ false
    go true e k more = ap t (same_place q p e) ∙ first_none (t p) (list_any t ps) h
    go false e k more = more (second_none (t p) (list_any t ps) h) k

passes_none : (s : Path → Bool) (xs : List Path) (x : Path) → filter s xs ≡ [] → among xs x ≡ true → s x ≡ false
passes_none s [] x k i = absurd (never_both false i refl)
passes_none s (y ∷ xs) x k i = go (s y) refl k (bytes_eq x y) refl i (passes_none s xs x)
  where
    go : (b : Bool) → s y ≡ b → cond b (y ∷ filter s xs) (filter s xs) ≡ [] → (c : Bool) → bytes_eq x y ≡ c → (c || among xs x) ≡ true → (filter s xs ≡ [] → among xs x ≡ true → s x ≡ false) → s x ≡ false
    go true p n c same m more = absurd cc
    go false p n true same m more = ap s (same_place x y same) ∙ p
    go false p n false same m more = more n m

kept_in : (s : Path → Bool) (xs : List Path) (x : Path) → among xs x ≡ true → s x ≡ true → among (filter s xs) x ≡ true
kept_in s [] x i h = absurd (never_both false i refl)
kept_in s (y ∷ xs) x i h = go (s y) refl (bytes_eq x y) refl i (λ m. kept_in s xs x m h)
  where
    go : (b : Bool) → s y ≡ b → (c : Bool) → bytes_eq x y ≡ c → (c || among xs x) ≡ true → (among xs x ≡ true → among (filter s xs) x ≡ true) → among (cond b (y ∷ filter s xs) (filter s xs)) x ≡ true
    go true p true same m more = or_first (bytes_eq x y) (among (filter s xs) x) same
    go true p false same m more = or_second (bytes_eq x y) (among (filter s xs) x) (more m)
    go false p true same m more = absurd (never_both (s y) (sym (ap s (same_place x y same)) ∙ h) p)
    go false p false same m more = more m

distinct_has : (xs : List Path) (x : Path) → among xs x ≡ true → among (distinct bytes_eq xs) x ≡ true
distinct_has [] x i = i
distinct_has (y ∷ xs) x i = go (bytes_eq x y) refl i (distinct_has xs x)
  where
    go : (c : Bool) → bytes_eq x y ≡ c → (c || among xs x) ≡ true → (among xs x ≡ true → among (distinct bytes_eq xs) x ≡ true) → among (y ∷ filter (λ z. not (bytes_eq y z)) (distinct bytes_eq xs)) x ≡ true
    go true same m more = or_first (bytes_eq x y) (among (filter (λ z. not (bytes_eq y z)) (distinct bytes_eq xs)) x) same
    go false same m more =
        or_second (bytes_eq x y) (among (filter (λ z. not (bytes_eq y z)) (distinct bytes_eq xs)) x) (kept_in (λ z. not (bytes_eq y z)) (distinct bytes_eq xs) x (more m) (ap not (same_flipped y x ∙ same)))

-- what passes at none of the paths, each once, passes at none of them
nil_of : (t : Path → Bool) (ps : List Path) (q : Path) → filter t (distinct bytes_eq ps) ≡ [] → among ps q ≡ true → t q ≡ false
nil_of t ps q e at = passes_none t (distinct bytes_eq ps) q e (distinct_has ps q at)

-- ## Makers

found_in_zip : (f : Job → State) (js : List Job) (q : Path) → find (λ (e : Job × State). makes e.0 q) (zip js (map f js)) ≡ option_map (λ (j : Job). (j, f j)) (find (λ j. makes j q) js)
found_in_zip f [] q = refl
found_in_zip f (j ∷ js) q = go (makes j q) (found_in_zip f js q)
  where
    go : (b : Bool) → find (λ (e : Job × State). makes e.0 q) (zip js (map f js)) ≡ option_map (λ (k : Job). (k, f k)) (find (λ k. makes k q) js) →
        cond b (Some (j, f j)) (find (λ (e : Job × State). makes e.0 q) (zip js (map f js))) ≡ option_map (λ (k : Job). (k, f k)) (cond b (Some j) (find (λ k. makes k q) js))
    go true more = refl
    go false more = more

in_told : (o : Option Maker) (number : Option ℕ) → option_map (λ (m : Maker). m.job) o ≡ Some number → option_and_then (λ (m : Maker). m.job) o ≡ number
in_told None number e = absurd (no_some e)
  where
    no_some : None ≡ Some number → ⊥
    no_some c = cc
in_told (Some m) number e = same e
  where
    same : Some m.job ≡ Some number → m.job ≡ number
    same s = cc

-- ## States

abbrev quiet : State → Bool
quiet s = is_clean s || is_restore s

settled : (o : Bool) (rs : List Reason) (x : Bool) → quiet (if o then Open else by_reasons rs x) ≡ true → (o ≡ false) × (rs ≡ [])
settled true rs x h = absurd (never_both false h refl)
settled false [] x h = (refl, refl)
settled false (r ∷ rs) x h = absurd (never_both false h refl)

pub record IsQuiet (image : Image) (j : Job) : Type 0 where
  pub of : Record
  pub place : Path
  pub first_is : first (out_paths j.recipe) ≡ Some place
  pub stands : image.kept place ≡ Held of
  pub unmarked : image.marked place ≡ false
  pub all : Each (IsKept image of.made) (out_paths j.recipe)
  pub unchanged : changes j.recipe (zip (in_paths j.recipe) (map (stamp_now image) (in_paths j.recipe))) of ≡ []

quiet_by : (image : Image) (j : Job) (ps : List Path) → out_paths j.recipe ≡ ps → (ps ≡ [] → ⊥) →
    lacks_record (map image.kept ps) ≡ false → has_bad_record (map image.kept ps) ≡ false → list_any (λ b. b) (map image.marked ps) ≡ false →
    changes_from j.recipe (zip (in_paths j.recipe) (map (stamp_now image) (in_paths j.recipe))) (flat_map held (map image.kept ps)) ≡ [] → IsQuiet image j
quiet_by image j [] e some there good marks none = absurd (some refl)
quiet_by image j (p ∷ ps) e some there good marks none =
    let k = first_kept image p ps (changes_from j.recipe (zip (in_paths j.recipe) (map (stamp_now image) (in_paths j.recipe)))) there good marks none in
    record {
      of = k.of;
      place = p;
      first_is = ap first e;
      stands = k.stands;
      unmarked = k.all.0.2;
      all = subst (Each (IsKept image k.of.made)) (sym e) k.all;
      unchanged = k.unchanged.1;
    }

module _ (image : Image) (settings : Settings) (ran : List Path) (J : Jobs) (asked : List Path) (states : List State) (planned : IsPlanned image settings ran J asked states) where
  abbrev plan : Plan
  plan = with_states J states

  abbrev f : Job → State
  f j = state_of image settings (having_run ran) plan j

  -- what is known of a job that is Clean or a Restore
  quiet_is : (j : Job) → (out_paths j.recipe ≡ [] → ⊥) → quiet (f j) ≡ true → IsQuiet image j × (is_open_now image settings (having_run ran) plan j ≡ false) × (filter (made_by plan is_dirty) (distinct bytes_eq (in_paths j.recipe)) ≡ [])
  quiet_is j some h =
      let table = settled (is_open_now image settings (having_run ran) plan j) (reasons image settings (having_run ran) plan j) _ h in
      let parts = nil_both (own_of (facts_of image settings ran plan j)) _ (sym (exact_reason image settings ran plan j) ∙ table.1) in
      let others = nil_both (map Upstream (filter (made_by plan is_dirty) (distinct bytes_eq (in_paths j.recipe)))) _ parts.1 in
      let own = split_parts _ _ _ _ parts.0 in
      (quiet_by image j (out_paths j.recipe) refl some own.0 own.2 own.1 own.3, table.0, map_nil Upstream (filter (made_by plan is_dirty) (distinct bytes_eq (in_paths j.recipe))) others.0)

  -- a path is made by a job in such a state where the job that makes it is
  made_test : (test : State → Bool) (q : Path) (jk : Job) → find (λ j. makes j q) J.jobs ≡ Some jk → made_by plan test q ≡ test (f jk)
  made_test test q jk found =
      ap (λ (ss : List State). test_some (λ (e : Job × State). test e.1) (find (λ (e : Job × State). makes e.0 q) (zip J.jobs ss))) planned.solved
      ∙ ap (test_some (λ (e : Job × State). test e.1)) (found_in_zip f J.jobs q ∙ ap (option_map (λ (j : Job). (j, f j))) found)

-- ## Duties

any_last : (a b c : Bool) → (a || (b || c)) ≡ false → c ≡ false
any_last true b c h = absurd (never_both true refl h)
any_last false true c h = absurd (never_both true refl h)
any_last false false c h = h

rest_old : (next : Option ℕ) (o : Option ℕ) (m : ℕ) → o ≡ Some m → is_old next m ≡ true → resting next o ≡ Rest m
rest_old next o m e old = ap (resting next) e ∙ ap (λ (b : Bool). if b then Rest m else Rest 0) old

kept_core : (image : Image) (m : ℕ) (p : Path) → IsKept image m p → is_some (core_at image p) ≡ true
kept_core image m p k = ap (λ (o : Option Record). is_some (option_map core o)) k.1

module _ (image : Image) (settings : Settings) (ran : List Path) (J : Jobs) (asked : List Path) (states : List State) (planned : IsPlanned image settings ran J asked states) (store : List Known) (is : IsStoreOf image store) (next : Option ℕ) (drawn : next ≡ next_serial store) where
  abbrev f' : Job → State
  f' j = state_of image settings (having_run ran) (with_states J states) j

  -- of each of these jobs what is meant is done
  abbrev AreSoFar : List Job → List Duty → Type 0
  AreSoFar js ds = AreMeant image js (map f' js) ds

  known_at : (js : List Job) (ds : List Duty) (k : ℕ) → AreSoFar js ds → k < length js → (jk : Job) × (dk : Duty) × (job_at js k ≡ Some jk) × (slice_get ds k ≡ Some dk) × IsMeant image jk (f' jk) dk
  known_at [] ds k h lt = absurd (omega arith)
  known_at (j ∷ js) [] k h lt = absurd h
  known_at (j ∷ js) (d ∷ ds) zero h lt = (j, d, refl, refl, h.0)
  known_at (j ∷ js) (d ∷ ds) (suc k) h lt = known_at js ds k h.1 (omega arith)

  made_is : (j : Job) (k : IsQuiet image j) → made_of store j ≡ Some k.of.made
  made_is j k = ap (option_and_then (λ p. made_in (entry_of store p))) k.first_is ∙ made_there image store is k.place k.of k.stands

  old_is : (j : Job) (k : IsQuiet image j) → is_old next k.of.made ≡ true
  old_is j k = old_there image store is k.place k.of next k.stands k.unmarked drawn

  valid_is : (j : Job) (k : IsQuiet image j) → is_valid k.of ≡ true
  valid_is j k = (planned.owned k.place k.of (ap readable k.stands)).1

  -- the serial of what a job reads of a job that is Clean or a Restore
  below_is : (j : Job) (q : Path) (jn : Job) (m : ℕ) (k : IsQuiet image j) → among (in_paths j.recipe) q ≡ true → find (λ j. makes j q) J.jobs ≡ Some jn → AreKeptWith image m jn → nat_lt m k.of.made ≡ true
  below_is j q jn m k at found kept =
      let spoken = each_found (IsSpokenFor image) (λ j. makes j q) J.jobs jn planned.spoken found q (find_passes (λ j. makes j q) J.jobs jn found) (each_of (IsKept image m) (λ p. is_some (core_at image p) ≡ true) (kept_core image m) (out_paths jn.recipe) kept) in
      input_below image j.recipe k.of q m (valid_is j k) k.unchanged at
      (stamp_spoken image q spoken.0 m spoken.1 (each_among (IsKept image m) (out_paths jn.recipe) spoken.0 kept spoken.2))

  -- an input of a Restore
  input_is : (before rest : List Job) (ds : List Duty) (j : Job) (q : Path) → J.jobs ≡ before ++ rest → AreSoFar before ds → (k : IsQuiet image j) → among (in_paths j.recipe) q ≡ true →
      made_by (with_states J states) is_dirty q ≡ false → made_by (with_states J states) is_open q ≡ false → (t : IsToldOf J q) → IsBelow (length before) t.number → is_input_below J.makers ds k.of.made q ≡ true
  input_is before rest ds j q all so_far k at clean closed t below = go t.number refl below
    where
      by_duty : (n : ℕ) (jn : Job) (dn : Duty) → find (λ j. makes j q) J.jobs ≡ Some jn → slice_get ds n ≡ Some dn → IsMeant image jn (f' jn) dn → is_kept_below k.of.made (slice_get ds n) ≡ true
      by_duty n jn dn found got meant = ap (is_kept_below k.of.made) got ∙ pick (f' jn) refl meant
        where
          never_dirty : is_dirty (f' jn) ≡ false
          never_dirty = sym (made_test image settings ran J asked states planned is_dirty q jn found) ∙ clean

          never_open : is_open (f' jn) ≡ false
          never_open = sym (made_test image settings ran J asked states planned is_open q jn found) ∙ closed

          pick : (s : State) → f' jn ≡ s → IsMeant image jn s dn → is_kept_below k.of.made (Some dn) ≡ true
          pick Open e h = absurd (never_both (is_open (f' jn)) (ap is_open e) never_open)
          pick (Dirty rs) e h = absurd (never_both (is_dirty (f' jn)) (ap is_dirty e) never_dirty)
          pick Restore e h = ap (λ (d : Duty). is_kept_below k.of.made (Some d)) h.2 ∙ below_is j q jn h.0 k at found h.1
          pick Clean e h = ap (λ (d : Duty). is_kept_below k.of.made (Some d)) h.2 ∙ below_is j q jn h.0 k at found h.1

      go : (o : Option ℕ) → t.number ≡ o → IsBelow (length before) o → is_job_below ds k.of.made (maker_in J.makers q) ≡ true
      go None e h = ap (is_job_below ds k.of.made) (in_told _ t.number t.told ∙ e)
      go (Some n) e h =
          let known = known_at before ds n so_far h in
          ap (is_job_below ds k.of.made) (in_told _ t.number t.told ∙ e)
          ∙ by_duty n known.0 known.1
          (t.right ∙ ap (option_and_then (job_at J.jobs)) e ∙ ap (λ (js : List Job). job_at js n) all ∙ job_more before rest n known.0 known.2) known.3 known.4

  -- what the job reads or gathers from is told rightly
  abbrev IsReadAt : ℕ → Path → Type 0
  IsReadAt n q = (t : IsToldOf J q) × IsBelow n t.number

  -- what is chosen for a job is what is meant
  duty_is : (before rest : List Job) (ds : List Duty) (j : Job) → J.jobs ≡ before ++ rest → AreSoFar before ds → (out_paths j.recipe ≡ [] → ⊥) →
      Each (IsReadAt (length before)) (in_paths j.recipe ++ gathers_from j) → IsMeant image j (f' j) (duty_by next (is_able next J.makers) store ds j (f' j))
  duty_is before rest ds j all so_far some reads = go (f' j) refl
    where
      go : (s : State) → f' j ≡ s → IsMeant image j s (duty_by next (is_able next J.makers) store ds j s)
      go Open e = rest_rests next (made_of store j)
      go (Dirty rs) e = refl
      go Clean e =
          let known = quiet_is image settings ran J asked states planned j some (ap quiet e) in
          (known.0.of.made, known.0.all, rest_old next (made_of store j) known.0.of.made (made_is j known.0) (old_is j known.0))
      go Restore e =
          let known = quiet_is image settings ran J asked states planned j some (ap quiet e) in
          let k = known.0 in
          let m = k.of.made in
          let ins = in_paths j.recipe in
          let open_none = any_last _ _ (list_any (made_by (with_states J states) is_open) ins) known.1 in
          let each : Each (λ q. is_input_below J.makers ds m q ≡ true) ins =
          each_two (λ q. among ins q ≡ true) (IsReadAt (length before)) (λ q. is_input_below J.makers ds m q ≡ true)
          (λ q at read. input_is before rest ds j q all so_far k at (nil_of (made_by (with_states J states) is_dirty) ins q known.2 at) (none_of (made_by (with_states J states) is_open) ins q open_none at) read.0 read.1)
          ins (each_self ins) (each_front (IsReadAt (length before)) ins (gathers_from j) reads) in
          let able = both_true (nat_le 1 m) (is_old next m && list_all (is_input_below J.makers ds m) ins) (made_positive k.of (valid_is j k))
          (both_true (is_old next m) (list_all (is_input_below J.makers ds m) ins) (old_is j k) (all_of_each (is_input_below J.makers ds m) ins each)) in
          (m, k.all, ap (restoring (is_able next J.makers) ds j) (made_is j k) ∙ ap (λ (b : Bool). if b then Again m else Run) able)

  meant_more : (js : List Job) (ss : List State) (ds : List Duty) (j : Job) (s : State) (d : Duty) → AreMeant image js ss ds → IsMeant image j s d → AreMeant image (js ++ j ∷ []) (ss ++ s ∷ []) (ds ++ d ∷ [])
  meant_more [] [] [] j s d h k = (k, tt)
  meant_more [] [] (x ∷ ds) j s d h k = absurd h
  meant_more [] (t ∷ ss) ds j s d h k = absurd h
  meant_more (i ∷ js) [] ds j s d h k = absurd h
  meant_more (i ∷ js) (t ∷ ss) [] j s d h k = absurd h
  meant_more (i ∷ js) (t ∷ ss) (x ∷ ds) j s d h k = (h.0, meant_more js ss ds j s d h.1 k)

  map_last : (js : List Job) (j : Job) → map f' (js ++ j ∷ []) ≡ map f' js ++ f' j ∷ []
  map_last [] j = refl
  map_last (i ∷ js) j = ap (λ ss. f' i ∷ ss) (map_last js j)

  longer : (js : List Job) (j : Job) → length (js ++ j ∷ []) ≡ suc (length js)
  longer [] j = refl
  longer (i ∷ js) j = ap suc (longer js j)

  all_meant : (before js : List Job) (ds : List Duty) → J.jobs ≡ before ++ js → AreSoFar before ds → Each (λ (j : Job). out_paths j.recipe ≡ [] → ⊥) js → ReadEarlier J (length before) js →
      AreSoFar (before ++ js) (duties_in next (is_able next J.makers) store ds js (map f' js))
  all_meant before [] ds all so_far some reads = subst (λ (js : List Job). AreSoFar js ds) (sym (append-nil before)) so_far
  all_meant before (j ∷ js) ds all so_far some reads =
      let d = duty_by next (is_able next J.makers) store ds j (f' j) in
      subst (λ (l : List Job). AreSoFar l (duties_in next (is_able next J.makers) store (ds ++ d ∷ []) js (map f' js))) (append_assoc before (j ∷ []) js)
      (all_meant (before ++ j ∷ []) js (ds ++ d ∷ []) (all ∙ sym (append_assoc before (j ∷ []) js))
      (subst (λ (ss : List State). AreMeant image (before ++ j ∷ []) ss (ds ++ d ∷ [])) (sym (map_last before j))
      (meant_more before (map f' before) ds j (f' j) d so_far (duty_is before (j ∷ js) ds j all so_far some.0 reads.0)))
      some.1 (subst (λ n. ReadEarlier J n js) (sym (longer before j)) reads.1))

  -- the duties of all jobs
  pub chosen_meant : AreMeant image J.jobs states (duties_in next (is_able next J.makers) store [] J.jobs states)
  chosen_meant =
      subst (λ (ss : List State). AreMeant image J.jobs ss (duties_in next (is_able next J.makers) store [] J.jobs ss)) (sym planned.solved)
      (all_meant [] J.jobs [] refl tt planned.making planned.served.reads)
