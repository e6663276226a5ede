-- An output that is spent is free: its record stands, unmarked, and no open job owns or reads what overlaps it.
use Rattle.std.proofs.Common.{◌≡◌, inl, inr, ℕ, Bool, true, false, ◌&&◌, not, List, [], ◌∷◌, ◌++◌, map, zip, flat_map, refl, sym, ap, subst, ◌∙◌, is_some, Option, Some, None, true≢false}
use Rattle.std.specs.Prelude.{if◌then◌else◌}
use Rattle.std.specs.List.{list_any, list_all}
use Rattle.std.proofs.lemmas.Bool.{cases_Bool}
use Rattle.smk_base.specs.Path.{is_under, overlaps}
use Rattle.smk_base.proofs.Under.{at_when_under, both_true, false_unless, never_both}
use Rattle.smk_base.specs.Place.{record_place}
use Rattle.smk_world.specs.declared.event.Event.{Event}
use Rattle.smk_world.specs.declared.recipe.Recipe.{Recipe}
use Rattle.smk_world.specs.World.{World, in_paths, out_paths, owned_paths, reading}
use Rattle.smk_world.specs.Calls.{any_overlap, are_apart}
use Rattle.smk_world.specs.Trees.{Path, Act, IsIn, among, folder_over, folders_of, is_path_text}
use Rattle.smk_record.specs.declared.record.Record.{Record}
use Rattle.smk_record.specs.Records.{core}
use Rattle.smk_store.specs.declared.store.Kept.TheVariants.{Absent}
use Rattle.smk_store.specs.Images.{Image, kept_by, readable, record_at, seen as image_seen}
use Rattle.smk_store.specs.Soundness.{Outside}
use Rattle.smk_store.specs.Trust.{Versions, is_marked_but, stamp_now_but}
use Rattle.smk_flow.specs.declared.job.Job.{Job}
use Rattle.smk_trigger.specs.declared.reason.Reason.{Reason}
use Rattle.smk_trigger.specs.declared.reason.State.{State}
use Rattle.smk_trigger.specs.declared.reason.State.TheVariants.{Open}
use Rattle.smk_trigger.specs.JobStates.{is_clean, is_open, is_restore}
use Rattle.smk_plan.specs.States.{IsPlan, Plan, Progress, awaited, awaits, by_reasons, by_table, directory_over, gathers_from, is_held_back, is_input, is_open_now, is_read_now, is_restored, is_spent, is_temporary, is_to_restore, kept_state, makes, makes_awaited, none_or_one, reasons, staged, state_of, test_some, while_running}
use Rattle.smk_laws_plan.proofs.CurrentChosen.{folders_paths}
use Rattle.smk_laws_plan.proofs.CurrentLists.{and_left, and_right, any_none, append_nil_left, find_in, in_flat, in_left, in_map, in_right, not_true, or_cases, zip_in}
use Rattle.smk_laws_plan.proofs.CurrentPaths.{among_in, in_among}
use Rattle.smk_laws_plan.proofs.CurrentProducts.{Planned, core_reads, once_paths}
use Rattle.smk_laws_plan.proofs.CurrentSame.{kept_record, own_calm}
use Rattle.smk_laws_history.proofs.CurrentComplete.{seen_is_complete}
use Rattle.smk_laws_history.proofs.Valid.{records_valid}
use Rattle.smk_laws_protocol.specs.Protocol.{IsFree, OpenJob, RunState, Running, own}
use Rattle.smk_laws_protocol.specs.Midway.{Midway}
use Rattle.smk_laws_protocol.proofs.Basics.{any_by, each_in, each_of, none_of, some_of}
use Rattle.smk_safe.proofs.Planned.{zip_at}
use Rattle.smk_drive.specs.Moments.{Rules, IsInForce, is_spent_now, progress_of, runs, seen}
use Rattle.smk_drive_course.specs.Stands.{IsClear, Stand, moment_of}
use Rattle.smk_drive_course.specs.Steps.{IsAsListed}
use Rattle.smk_laws_moments.specs.Opened.{AreStillPlanned, IsLeft, IsOf, IsPlannedStill, IsStateOf, Runs, opened}
use Rattle.smk_laws_moments.proofs.Inputs.{input_clear, maker_is}
use Rattle.smk_laws_moments.proofs.Next.{last_is_plan}
use Rattle.smk_laws_moments.proofs.Others.{child_runs, is_kept, kept_unclean}
use Rattle.smk_laws_moments.proofs.Restoring.{left_none, own_of}
use Rattle.smk_laws_moments.proofs.Spots.{each_apart, flipped, overlaps_above, own_apart, owned, owned_between}
use Rattle.smk_laws_turns.proofs.Flagged.{temp_output}

-- ## Words on states

-- what is Clean has no child that runs, and is so by the table
unkept_clean : (k : Option State) (x : State) → is_clean (while_running k x) ≡ true → (k ≡ None) × (is_clean x ≡ true)
unkept_clean None x h = (refl, h)
unkept_clean (Some x) y h = absurd (true≢false (sym h ∙ kept_unclean (Some x) y refl))

table_clean : (b : Bool) (rs : List Reason) (x : Bool) → is_clean (if b then Open else by_reasons rs x) ≡ true → rs ≡ []
table_clean true rs x h = absurd (true≢false (sym h))
table_clean false [] x h = refl
table_clean false (r ∷ rs) x h = absurd (true≢false (sym h))

unmarked_by : (a b : Bool) → b ≡ false → (a && not b) ≡ false → a ≡ false
unmarked_by true b x y = absurd (true≢false (sym (ap not x) ∙ y))
unmarked_by false b x y = refl

-- what four tests say, and a fifth one
three : (a b c d e : Bool) → (a && (b && (c && (not d && e)))) ≡ true → (a ≡ true) × (c ≡ true) × (d ≡ false)
three a b c d e h =
    let second = and_right a (b && (c && (not d && e))) h in
    let third = and_right b (c && (not d && e)) second in
    (and_left a (b && (c && (not d && e))) h, and_left c (not d && e) third, not_true d (and_left (not d) e (and_right c (not d && e) third)))

-- ## Paths that are apart

alone_in : (ps : List Path) (p q : Path) → are_apart ps ≡ true → IsIn ps p → IsIn ps q → overlaps p q ≡ true → p ≡ q
alone_in [] p q h i k over = absurd i
alone_in (x ∷ ps) p q h (inl e) (inl d) over = e ∙ sym d
alone_in (x ∷ ps) p q h (inl e) (inr k) over =
    absurd (never_both (overlaps p q) over (ap (λ y. overlaps y q) e ∙ none_of (overlaps x) ps q
    (not_true (list_any (overlaps x) ps) (and_left (not (list_any (overlaps x) ps)) (are_apart ps) h)) k))
alone_in (x ∷ ps) p q h (inr i) (inl d) over =
    absurd (never_both (overlaps p q) over
    (ap (overlaps p) d ∙ flipped x p (none_of (overlaps x) ps p (not_true (list_any (overlaps x) ps) (and_left (not (list_any (overlaps x) ps)) (are_apart ps)
    h)) i)))
alone_in (x ∷ ps) p q h (inr i) (inr k) over = alone_in ps p q (and_right (not (list_any (overlaps x) ps)) (are_apart ps) h) i k over

-- a record stands at a path that is a text
path_text : (read : List ℕ → Option Record) (w : World) (p : Path) (r : Record) → record_at (image_seen read w) p ≡ Some r → is_path_text p ≡ true
path_text read w p r h = go (is_path_text p) refl h
  where
    no : None ≡ Some r → ⊥
    no e = cc

    go : (b : Bool) → is_path_text p ≡ b → readable (if b then kept_by read p (reading (w.nodes (record_place p))) else Absent) ≡ Some r → b ≡ true
    go true e k = refl
    go false e k = absurd (no k)

-- ## What is spent

-- A job of the plan in force of which this output is spent.
record IsSpending (rules : Rules) (s : Stand) (w : World) (p : Path) : Type 0 where
  pub plan : Plan
  pub in_force : s.plan ≡ Some plan
  pub e : Job × State
  pub there : IsIn (staged plan) e
  pub test : is_spent (seen rules w) rules.settings (progress_of w s.begun) plan e p ≡ true

spending : (rules : Rules) (s : Stand) (w : World) (before : List Event) (p : Path) → is_spent_now rules (moment_of s w before) p ≡ true →
    IsSpending rules s w p
spending rules s w before p h = go s.plan refl h
  where
    go : (x : Option Plan) → s.plan ≡ x
        → test_some (λ (plan : Plan). list_any (λ (e : Job × State). is_spent (seen rules w) rules.settings (progress_of w s.begun) plan e p) (staged plan))
        x ≡ true → IsSpending rules s w p
    go None e k = absurd (true≢false (sym k))
    go (Some plan) e k =
        let f = some_of (λ (x : Job × State). is_spent (seen rules w) rules.settings (progress_of w s.begun) plan x p) (staged plan) k in
        record { plan = plan; in_force = e; e = f.0; there = f.1; test = f.2 }

abbrev outside : Rules → Act → Outside
outside rules act = record { read = rules.read; act = act }

module _
    (act : Act) (rules : Rules) (entry w : World) (H : Versions) (before : List Event) (s : Stand) (state : RunState) (p : Path)
    (midway : Midway (outside rules act) entry H state w) (is : IsStateOf rules entry s state) (still : AreStillPlanned s)
    (clear : IsClear rules s w before) (spent : IsSpending rules s w p) (listed : IsAsListed (seen rules w) p) where
  abbrev o : Outside
  o = outside rules act

  abbrev image : Image
  image = seen rules w

  abbrev progress : Progress
  progress = progress_of w s.begun

  abbrev plan : Plan
  plan = spent.plan

  abbrev j : Job
  j = spent.e.0

  abbrev st : Job → State
  st k = state_of image rules.settings progress plan k

  abbrev kept_of : Job → Option State
  kept_of k = kept_state image rules.settings progress plan k

  is_plan : IsPlan rules.flow image rules.settings progress plan
  is_plan =
      let last : IsInForce rules w s.begun s.from (Some plan) = subst (IsInForce rules w s.begun s.from) spent.in_force clear.planned in
      last_is_plan rules.flow image rules.settings progress s.from plan last

  planned : Planned rules.flow image rules.settings progress plan
  planned = record {
    complete = seen_is_complete rules.read w midway.images.formed;
    valid = records_valid rules.read w.names (λ q. reading (w.nodes q));
    derived = is_plan;
  }

  there : IsIn plan.jobs j × (spent.e.1 ≡ st j)
  there = zip_in st plan.jobs spent.e (subst (λ ss. IsIn (zip plan.jobs ss) spent.e) is_plan.states spent.there)

  -- ## What it asks

  its_parts : (is_temporary image rules.settings progress plan j p ≡ true) × (is_clean spent.e.1 ≡ true)
      × (is_input plan (λ (k : Job × State). not (is_clean k.1)) p ≡ false)
  its_parts =
      three (is_temporary image rules.settings progress plan j p) (not (among rules.settings.targets p)) (is_clean spent.e.1)
      (is_input plan (λ (k : Job × State). not (is_clean k.1)) p)
      (list_all (λ (x : State). not (is_open x) && not (is_restore x)) plan.states && list_all
      (λ (k : Job). not (is_held_back image rules.settings progress plan k)) plan.jobs) spent.test

  clean : is_clean (st j) ≡ true
  clean = ap is_clean (sym there.1) ∙ its_parts.1

  unawaited : makes_awaited image rules.settings progress plan j ≡ false
  unawaited = not_true (makes_awaited image rules.settings progress plan j)
      (and_right (among j.temps p) (not (makes_awaited image rules.settings progress plan j)) its_parts.0)

  output : IsIn (out_paths j.recipe) p
  output =
      temp_output rules.flow image plan.lists rules.settings.targets plan.jobs planned.complete is_plan.derived j p there.0
      (among_in j.temps p (and_left (among j.temps p) (not (makes_awaited image rules.settings progress plan j)) its_parts.0))

  by_the_table : (kept_of j ≡ None) × (is_clean (by_table image rules.settings progress plan j) ≡ true)
  by_the_table = unkept_clean (kept_of j) (by_table image rules.settings progress plan j) clean

  -- ## Its record

  calm : own_of rules.flow act image rules.settings progress plan planned j ≡ []
  calm =
      append_nil_left (own_of rules.flow act image rules.settings progress plan planned j) _
      (table_clean (is_open_now image rules.settings progress plan j) (reasons image rules.settings progress plan j)
      (is_to_restore image rules.settings progress plan j && not (is_read_now image rules.settings progress plan j)) by_the_table.1)

  record RecordIs : Type 0 where
    pub r : Record
    pub reads : record_at image p ≡ Some r
    pub unmarked : image.marked p ≡ false

  its_record : RecordIs
  its_record =
      let left = is_restored image rules.settings progress plan in
      let kept = map image.kept (out_paths j.recipe) in
      let marked = map (is_marked_but image left) (out_paths j.recipe) in
      let stamps = map (λ q. (q, stamp_now_but image left q)) (in_paths j.recipe) in
      let own = own_calm j.recipe kept marked stamps calm in
      let found = kept_record image (out_paths j.recipe) p own.present own.readable output in
      record {
        r = found.0;
        reads = found.1;
        unmarked = unmarked_by (image.marked p) (left p) (left_none rules.flow act image rules.settings progress plan planned j p there.0 by_the_table.0 output)
            (any_none (λ b. b) marked (is_marked_but image left p) own.unmarked (in_map (is_marked_but image left) (out_paths j.recipe) p output));
      }

  -- ## Jobs whose children run

  -- it is a job of the plan, and isn't Clean
  record IsRunning (k : Job) : Type 0 where
    pub of_plan : IsIn plan.jobs k
    pub kept : is_some (kept_of k) ≡ true

  running_job : (going : _) (kept : List (Path × Record)) (q : IsPlannedStill s plan going) → IsIn state.jobs (opened going kept (Running going.number)) →
      IsRunning q.job
  running_job going kept q i =
      let open_job = opened going kept (Running going.number) in
      let child = child_runs o w state.jobs open_job q.job going.number midway.phases midway.apart midway.children i refl q.recipe in
      record {
        of_plan = q.planned;
        kept = subst (λ k. is_some (kept_of k) ≡ true) q.is_job
            (is_kept image rules.settings plan w s.begun q.begun q.has_begun (subst (λ k. runs w k ≡ true) (sym q.is_job) child));
      }

  -- it owns nothing that overlaps the output
  owns_none : (k : Job) → IsRunning k → any_overlap (owned j) (owned k) ≡ false
  owns_none k r =
      owned_between rules.flow image plan.lists rules.settings.targets plan.jobs planned.complete is_plan.derived (λ x. not (is_some (kept_of x))) j k there.0
      r.of_plan
      (ap (λ x. not (is_some x)) by_the_table.0) (ap not r.kept)

  -- what it reads and the job makes is no part of the output
  reads_none : (k : Job) → IsRunning k → (q : Path) → IsIn (in_paths k.recipe) q → makes j q ≡ true → overlaps p q ≡ true → ⊥
  reads_none k r q iq here over = elim (or_cases (among (out_paths j.recipe) q) (is_some (folder_over j.recipe q)) here) [
    | inl out ↦
        let same = alone q (among_in (out_paths j.recipe) q out) over in
        true≢false (sym (any_by (λ (e : Job × State). among (in_paths e.0.recipe) p && not (is_clean e.1)) (staged plan) (k, st k) staged_k
        (both_true (among (in_paths k.recipe) p) (not (is_clean (st k))) (in_among (in_paths k.recipe) p (subst (IsIn (in_paths k.recipe)) (sym same) iq))
        (ap not (kept_unclean (kept_of k) (by_table image rules.settings progress plan k) r.kept)))) ∙ its_parts.2)
    | inr member ↦ by (folder_over j.recipe q) refl member
  ]
    where
      alone : (x : Path) → IsIn (out_paths j.recipe) x → overlaps p x ≡ true → p ≡ x
      alone x ix h =
          alone_in (owned j) p x (own_apart rules.flow image plan.lists rules.settings.targets plan.jobs planned.complete is_plan.derived j there.0)
          (in_left p (out_paths j.recipe) j.logs output) (in_left x (out_paths j.recipe) j.logs ix) h

      staged_k : IsIn (staged plan) (k, st k)
      staged_k = subst (λ ss. IsIn (zip plan.jobs ss) (k, st k)) (sym is_plan.states) (zip_at st plan.jobs k r.of_plan)

      by : (x : Option Path) → folder_over j.recipe q ≡ x → is_some x ≡ true → ⊥
      by None e h = true≢false (sym h)
      by (Some d) e h =
          let f = find_in (is_under q) (folders_of j.recipe) d e in
          let out = folders_paths j.recipe d f.0 in
          let same = alone d out (overlaps_above p q d (at_when_under q d f.1) over) in
          let over_q : IsIn (directory_over plan q) p =
          subst (λ m. IsIn (flat_map (λ (x : Job × State). none_or_one (folder_over x.0.recipe q)) (none_or_one m)) p)
          (sym (maker_is rules.flow act image rules.settings progress plan planned j q there.0 here))
          (subst (λ x. IsIn (none_or_one x ++ []) p) (sym e) (inl same)) in
          let waits : IsIn (awaits plan k) p =
          in_right p (gathers_from k) (flat_map (directory_over plan) (in_paths k.recipe ++ gathers_from k))
          (in_flat (directory_over plan) (in_paths k.recipe ++ gathers_from k) q p (in_left q (in_paths k.recipe) (gathers_from k) iq) over_q) in
          let all = flat_map (awaits plan) plan.jobs ++ flat_map (directory_over plan) rules.settings.targets in
          let awaited_p : IsIn (awaited image rules.settings progress plan) p =
          once_paths all p (in_left p (flat_map (awaits plan) plan.jobs) (flat_map (directory_over plan) rules.settings.targets)
          (in_flat (awaits plan) plan.jobs k p r.of_plan waits)) in
          true≢false (sym (any_by (among (awaited image rules.settings progress plan)) (out_paths j.recipe) p output
          (in_among (awaited image rules.settings progress plan) p awaited_p)) ∙ unawaited)

  -- it reads nothing that overlaps it
  input_apart : (k : Job) → IsRunning k → any_overlap (p ∷ []) (in_paths k.recipe) ≡ false
  input_apart k r = each_apart (p ∷ []) (in_paths k.recipe) (λ x q ix iq. elim ix [
    | inl e ↦ ap (λ y. overlaps y q) e ∙ elim (cases_Bool (makes j q)) [
      | inr never ↦ input_clear rules.flow act image rules.settings progress plan planned k j q p r.of_plan there.0 iq never
          (in_left p (out_paths j.recipe) j.logs output)
      | inl here ↦ false_unless (overlaps p q) (λ over. reads_none k r q iq here over)
    ]
    | inr never ↦ absurd never
  ])

  -- ## All of it

  record IsClearOf (k : OpenJob) : Type 0 where
    pub owns : any_overlap (own k) (p ∷ []) ≡ false
    pub reads : any_overlap (p ∷ []) (in_paths k.recipe) ≡ false

  clear_of : (k : OpenJob) → IsIn state.jobs k → IsOf s k → IsClearOf k
  clear_of _ i (IsLeft going kept status halted) = absurd (halted clear.unhalted)
  clear_of _ i (Runs going kept running) =
      let q = each_in (IsPlannedStill s plan) s.runs going (still plan spent.in_force) running in
      let r = running_job going kept q i in
      let same : owned q.job ≡ owned_paths going.recipe going.logs = λ n. owned_paths (q.recipe n) (q.logs n) in
      record {
        owns = each_apart (owned_paths going.recipe going.logs) (p ∷ []) (λ x y ix iy. elim iy [
          | inl e ↦ ap (overlaps x) e ∙ flipped p x (none_of (overlaps p) (owned_paths going.recipe going.logs) x
              (none_of (λ (z : Path). list_any (overlaps z) (owned_paths going.recipe going.logs)) (owned j) p
              (subst (λ ps. any_overlap (owned j) ps ≡ false) same (owns_none q.job r)) (in_left p (out_paths j.recipe) j.logs output)) ix)
          | inr never ↦ absurd never
        ]);
        reads = subst (λ (c : Recipe). any_overlap (p ∷ []) (in_paths c) ≡ false) q.recipe (input_apart q.job r);
      }

  free_here : IsFree o state w p (core its_record.r)
  free_here =
      record {
        path = path_text rules.read w p its_record.r its_record.reads;
        recorded = core_reads image p its_record.r its_record.reads;
        unmarked = its_record.unmarked;
        from_own = each_of (λ (k : OpenJob). any_overlap (own k) (p ∷ []) ≡ false) state.jobs
            (λ k i. (clear_of k i (each_in (IsOf s) state.jobs k is.jobs i)).owns);
        from_inputs = each_of (λ (k : OpenJob). any_overlap (p ∷ []) (in_paths k.recipe) ≡ false) state.jobs
            (λ k i. (clear_of k i (each_in (IsOf s) state.jobs k is.jobs i)).reads);
        no_more = listed;
      }

-- An output that is spent at a clear stand, of which all that is under it is listed, is free in the protocol.
pub spent_is_free :
    (o : Outside) (rules : Rules) (entry w : World) (H : Versions) (before : List Event) (s : Stand) (state : RunState) (p : Path) →
    rules.read ≡ o.read → Midway o entry H state w → IsStateOf rules entry s state → AreStillPlanned s → IsClear rules s w before →
    is_spent_now rules (moment_of s w before) p ≡ true → IsAsListed (seen rules w) p → (r : Record) × IsFree o state w p r
spent_is_free o rules entry w H before s state p reader midway is still clear spent listed =
    subst (λ read. (r : Record) × IsFree (record o { read = read }) state w p r) reader (
      _,
      free_here o.act rules entry w H before s state p (subst (λ read. Midway (record o { read = read }) entry H state w) (sym reader) midway) is still clear
          (spending rules s w before p spent) listed,
    )
