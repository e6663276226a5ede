-- What of the law of a log is computed: a test of each event and one of each moment. Starts and records are shown beside.
use Rattle.std.proofs.Common.{◌≡◌, ◌⊎◌, ◌≤◌, ℕ, zero, suc, Bool, true, false, ◌&&◌, not, List, [], ◌∷◌, filter, Option, Some, None, refl, sym, subst, ◌∙◌, IsTrue, true≢false, bytes_eq, nat_le, is_none, arith}
use Rattle.std.specs.Prelude.{◌≢◌}
use Rattle.std.specs.List.{list_all, flat_map}
use Rattle.smk_base.specs.Place.{record_place, mark_place}
use Rattle.smk_base.proofs.Places.{place_itself}
use Rattle.smk_world.specs.declared.event.Besides.TheVariants.{Anything, OneOf}
use Rattle.smk_world.specs.declared.event.NodeState.{NodeState}
use Rattle.smk_world.specs.declared.event.NodeState.TheVariants.{Owned, Known}
use Rattle.smk_world.specs.declared.event.Call.{Call}
use Rattle.smk_world.specs.declared.event.Call.TheVariants.{Looked, ReadFile, ReadFolder, Written, Created, Removed, MadeParents, Settled, Protected, Started, Waited}
use Rattle.smk_world.specs.declared.event.Event.{Event}
use Rattle.smk_world.specs.declared.event.Child.{Child}
use Rattle.smk_world.specs.declared.recipe.Out.{Out}
use Rattle.smk_world.specs.World.{World, IsFormed, run, in_paths, out_paths}
use Rattle.smk_world.specs.Calls.{failed, IsFirmlyMarked}
use Rattle.smk_world.specs.Trees.{Path, Each, IsIn, outs_of}
use Rattle.smk_flow.specs.declared.job.Job.{Job}
use Rattle.smk_trigger.specs.declared.reason.State.{State}
use Rattle.smk_plan.specs.States.{Plan, none_or_one, staged}
use Rattle.smk_drive.specs.Moments.{Rules, Moment, Begun, IsMoment, EachMoment, begins, begun_after, runs, is_rest, is_closed_badly, staged_now}
use Rattle.smk_drive.specs.Lawful.{is_wait, is_failed_wait, is_good_end, fit_together, running_jobs, goes_on, first_of, record_for, IsSafeInput}
use Rattle.smk_drive_course.specs.Moments.{AtEachEvent}
use Rattle.smk_drive_course.specs.Lawful.{Lawful, MayBegin, BeginsWell, StartsWell, IsStartOf, WritesWell, WaitsWell, NothingLeft, ClosedWithCause, may_start, is_free_to_start}
use Rattle.smk_drive_rows.proofs.Truth.{and_left, and_right, not_both, so_false, not_empty, nil_right, each_true, first_alone, finds_first, Finds}
use Rattle.smk_drive_rows.proofs.Chains.{is_empty, empty_so}
use Rattle.smk_drive_rows.proofs.Logs.{Unless, unless_left, unless_right, IsSettled, first_moment, last, at_the_end, Holds, all_events, at_each, by_tests}
use Rattle.smk_drive_rows.proofs.Safety.{is_safe, safe_input}
use Rattle.smk_drive_rows.proofs.Changes.{changes_well, changes_are_well}

module _ (rules : Rules) (entry : World) where
  -- ## Beginning

  abbrev pub none_begins : Moment → Event → Bool
  none_begins m e = list_all (λ (k : Job × State). not (begins rules m e k.0)) (staged_now m.plan)

  abbrev is_best : Moment → Job × State → Bool
  is_best m k = list_all (λ (j : Job × State). nat_le j.0.priority k.0.priority) (may_start rules m)

  abbrev is_free : Moment → Plan → Job × State → Bool
  is_free m plan k = is_free_to_start rules m plan k && fit_together rules (k.0 ∷ running_jobs m)

  abbrev first_begins : Moment → Event → Option Plan → Bool
  first_begins m e None = true
  first_begins m e (Some plan) = first_alone (λ (k : Job × State). begins rules m e k.0) (is_free m plan) (is_best m) (staged plan)

  abbrev may_begin : Moment → Event → Bool
  may_begin m e =
      is_rest m.world m.begun && (goes_on rules m && (list_all (λ (d : Event). not (failed d.call)) m.events && first_begins m e m.plan))

  abbrev begins_by : Bool → Moment → Event → Bool
  begins_by true m e = true
  begins_by false m e = may_begin m e

  first_in :
      (m : Moment) (e : Event) (plan : Option Plan) → first_begins m e plan ≡ true →
      Each (Finds (λ (k : Job × State). begins rules m e k.0) (λ k. true) (is_best m) (flat_map (λ (p : Plan). filter (is_free m p) (staged p)) (none_or_one plan))) (staged_now plan)
  first_in m e None t = tt
  first_in m e (Some plan) t = finds_first (λ (k : Job × State). begins rules m e k.0) (is_free m plan) (is_best m) (staged plan) [] t

  begin_each :
      (m : Moment) (e : Event) (ks : List (Job × State)) →
      IsTrue (is_rest m.world m.begun) → IsTrue (goes_on rules m) → IsTrue (list_all (λ (d : Event). not (failed d.call)) m.events) →
      Each (λ (k : Job × State). IsTrue (begins rules m e k.0) → first_of (may_start rules m) ≡ Some k) ks →
      Each (λ (k : Job × State). IsTrue (begins rules m e k.0) → MayBegin rules m k) ks
  begin_each m e [] rest going quiet h = tt
  begin_each m e (k ∷ ks) rest going quiet h =
      ((λ b. record { at_rest = rest; first = h.0 b; going = going; quiet = quiet }), begin_each m e ks rest going quiet h.1)

  begins_well : (m : Moment) (e : Event) → begins_by (none_begins m e) m e ≡ true → BeginsWell rules m e
  begins_well m e t = go (none_begins m e) refl t
    where
      quiet : Bool
      quiet = list_all (λ (d : Event). not (failed d.call)) m.events

      go : (b : Bool) → none_begins m e ≡ b → begins_by b m e ≡ true → BeginsWell rules m e
      go true none t =
          each_true (λ (k : Job × State). not (begins rules m e k.0)) (λ (k : Job × State). IsTrue (begins rules m e k.0) → MayBegin rules m k)
          (λ k n b. absurd (not_both (begins rules m e k.0) n b)) (staged_now m.plan) none
      go false some t =
          let later = and_right (is_rest m.world m.begun) (goes_on rules m && (quiet && first_begins m e m.plan)) t in
          let last = and_right (goes_on rules m) (quiet && first_begins m e m.plan) later in
          begin_each m e (staged_now m.plan) (and_left (is_rest m.world m.begun) (goes_on rules m && (quiet && first_begins m e m.plan)) t)
          (and_left (goes_on rules m) (quiet && first_begins m e m.plan) later) (and_left quiet (first_begins m e m.plan) last)
          (first_in m e m.plan (and_right quiet (first_begins m e m.plan) last))

  -- ## Waiting

  abbrev waits : Moment → Call → Bool
  waits m (Waited r) = not (is_empty m.world.children)
  waits m call = true

  some_child : (cs : List Child) → not (is_empty cs) ≡ true → cs ≢ []
  some_child [] h = λ e. true≢false (sym h)
  some_child (c ∷ cs) h = λ e. not_empty c cs e

  waits_well : (m : Moment) (c : Call) → waits m c ≡ true → WaitsWell rules m c
  waits_well m (Looked p r) t = tt
  waits_well m (ReadFile p limit r) t = tt
  waits_well m (ReadFolder p r) t = tt
  waits_well m (Written p bytes r) t = tt
  waits_well m (Created p r) t = tt
  waits_well m (Removed p r) t = tt
  waits_well m (MadeParents p r) t = tt
  waits_well m (Settled ps r) t = tt
  waits_well m (Protected p r) t = tt
  waits_well m (Started recipe logs command r) t = tt
  waits_well m (Waited r) t = some_child m.world.children t

  -- nothing that may start is left, in a run that goes on
  abbrev left_by : Bool → Moment → Bool
  left_by true m = is_empty (may_start rules m)
  left_by false m = true

  abbrev pub none_left : Moment → Bool
  none_left m = left_by (goes_on rules m) m

  pub left_well : (m : Moment) → none_left m ≡ true → NothingLeft rules m
  left_well m t going = empty_so (may_start rules m) (subst (λ b. left_by b m ≡ true) going t)

  abbrev none_left_at : Bool → Moment → Bool
  none_left_at true m = none_left m
  none_left_at false m = true

  -- ## Starting

  abbrev pub is_starting : Call → Bool
  is_starting (Started recipe logs command r) = true
  is_starting call = false

  unstarted : (m : Moment) (e : Event) (c : Call) → not (is_starting c) ≡ true → StartsWell rules entry m e c
  unstarted m e (Looked p r) h = tt
  unstarted m e (ReadFile p limit r) h = tt
  unstarted m e (ReadFolder p r) h = tt
  unstarted m e (Written p bytes r) h = tt
  unstarted m e (Created p r) h = tt
  unstarted m e (Removed p r) h = tt
  unstarted m e (MadeParents p r) h = tt
  unstarted m e (Settled ps r) h = tt
  unstarted m e (Protected p r) h = tt
  unstarted m e (Started recipe logs command r) h = absurd (true≢false (sym h))
  unstarted m e (Waited r) h = tt

  -- ## Records

  -- what is written there reads as the record that is due, where it is this output's
  abbrev DueOuts : Moment → Begun → Path → List ℕ → List Out → Type 0 → Type 0
  DueOuts m b place bytes [] Rest = Rest
  DueOuts m b place bytes (o ∷ outs) Rest =
      Unless (not (bytes_eq place (record_place o.path))) (rules.read bytes ≡ Some (record_for rules m b o)) (DueOuts m b place bytes outs Rest)

  abbrev DueRecords : Moment → Path → List ℕ → List Begun → Type 0
  DueRecords m place bytes [] = Unit {0}
  DueRecords m place bytes (b ∷ bs) = DueOuts m b place bytes (outs_of b.job.recipe) (DueRecords m place bytes bs)

  abbrev pub WritesDue : Moment → Event → Call → Type 0
  WritesDue m e (Written place bytes r) = DueRecords m place bytes (begun_after rules entry m e)
  WritesDue m e call = Unit {0}

  abbrev IsDue : Moment → Path → List ℕ → Begun → Out → Type 0
  IsDue m place bytes b o = place ≡ record_place o.path → rules.read bytes ≡ Some (record_for rules m b o)

  due_outs :
      (m : Moment) (b : Begun) (place : Path) (bytes : List ℕ) (outs : List Out) (Rest : Type 0) →
      DueOuts m b place bytes outs Rest → Each (IsDue m place bytes b) outs × Rest
  due_outs m b place bytes [] Rest h = (tt, h)
  due_outs m b place bytes (o ∷ outs) Rest h =
      let P = rules.read bytes ≡ Some (record_for rules m b o) in
      let More = DueOuts m b place bytes outs Rest in
      let other = not (bytes_eq place (record_place o.path)) in
      let later = due_outs m b place bytes outs Rest (unless_right P More other h) in (
        (
          (λ same. unless_left P More other (λ t. absurd (not_both (bytes_eq place (record_place o.path)) t (subst (λ q. bytes_eq place q ≡ true) same (place_itself place)))) h),
          later.0,
        ),
        later.1,
      )

  due_records :
      (m : Moment) (place : Path) (bytes : List ℕ) (bs : List Begun) →
      DueRecords m place bytes bs → Each (λ (b : Begun). Each (IsDue m place bytes b) (outs_of b.job.recipe)) bs
  due_records m place bytes [] h = tt
  due_records m place bytes (b ∷ bs) h =
      let here = due_outs m b place bytes (outs_of b.job.recipe) (DueRecords m place bytes bs) h in (here.0, due_records m place bytes bs here.1)

  writes_well : (m : Moment) (e : Event) (c : Call) → WritesDue m e c → WritesWell rules entry m e c
  writes_well m e (Written place bytes r) h = due_records m place bytes (begun_after rules entry m e) h
  writes_well m e c h = tt

  abbrev pub is_writing : Call → Bool
  is_writing (Written p bytes r) = true
  is_writing call = false

  unwritten : (m : Moment) (e : Event) (c : Call) → not (is_writing c) ≡ true → WritesDue m e c
  unwritten m e (Written place bytes r) h = absurd (true≢false (sym h))
  unwritten m e c h = tt

  -- ## Closing

  abbrev has_cause : Moment → Begun → Bool
  has_cause m b = not (is_closed_badly rules m.world b && is_good_end b.ended)

  caused : (m : Moment) (b : Begun) → has_cause m b ≡ true → IsTrue (is_closed_badly rules m.world b) → is_good_end b.ended ≡ false
  caused m b t closed = so_false (is_good_end b.ended) (subst (λ c. not (c && is_good_end b.ended) ≡ true) closed t)

  -- ## All of them

  abbrev pub moment_ok : Moment → Bool
  moment_ok m = fit_together rules (running_jobs m) && list_all (has_cause m) m.begun

  abbrev pub event_ok : Bool → Moment → Event → Bool
  event_ok thorough m e =
      moment_ok m
      && (changes_well rules entry m e
      && (begins_by (none_begins m e) m e && (waits m e.call && none_left_at (thorough && is_wait e.call) m)))

  -- what is left undone counts with these statuses
  abbrev pub thorough : ℕ → Bool
  thorough zero = true
  thorough (suc zero) = true
  thorough (suc (suc n)) = false

  is_thorough : (n : ℕ) → n ≤ 1 → thorough n ≡ true
  is_thorough zero h = refl
  is_thorough (suc zero) h = refl
  is_thorough (suc (suc n)) h = absurd (omega arith)

  -- What is computed of a good log.
  pub record IsChecked (log : List Event) (status : ℕ) : Type 0 where
    pub settled : IsSettled rules entry log
    pub events : all_events rules entry (event_ok (thorough status)) [] (first_moment rules entry) log ≡ true
    pub end : (moment_ok (last rules entry log) && none_left_at (thorough status) (last rules entry log)) ≡ true
    pub starts : Holds rules entry (λ m e. not (is_starting e.call)) (λ m e. StartsWell rules entry m e e.call) [] (first_moment rules entry) log
    pub writes : Holds rules entry (λ m e. not (is_writing e.call)) (λ m e. WritesDue m e e.call) [] (first_moment rules entry) log
    pub waited : ((run entry log).children ≡ []) ⊎ ((e : Event) × IsIn log e × IsTrue (is_failed_wait e.call))

  -- the parts of the test of an event
  pub record EventIsOk (status : ℕ) (m : Moment) (e : Event) : Type 0 where
    pub moment : moment_ok m ≡ true
    pub changes : changes_well rules entry m e ≡ true
    pub begins : begins_by (none_begins m e) m e ≡ true
    pub waits : waits m e.call ≡ true
    pub left : none_left_at (thorough status && is_wait e.call) m ≡ true

  parts : (status : ℕ) (m : Moment) (e : Event) → event_ok (thorough status) m e ≡ true → EventIsOk status m e
  parts status m e t =
      let left = none_left_at (thorough status && is_wait e.call) m in
      let a = and_right (moment_ok m) _ t in
      let b = and_right (changes_well rules entry m e) _ a in
      let c = and_right (begins_by (none_begins m e) m e) _ b in
      record {
        moment = and_left (moment_ok m) _ t;
        changes = and_left (changes_well rules entry m e) _ a;
        begins = and_left (begins_by (none_begins m e) m e) _ b;
        waits = and_left (waits m e.call) left c;
        left = and_right (waits m e.call) left c;
      }

  module _ (formed : IsFormed entry) (log : List Event) (status : ℕ) (checked : IsChecked log status) where
    each_ok : AtEachEvent rules entry log (EventIsOk status)
    each_ok = by_tests rules entry (event_ok (thorough status)) (EventIsOk status) (parts status) formed log checked.settled checked.events

    starts_well : AtEachEvent rules entry log (λ m e. StartsWell rules entry m e e.call)
    starts_well =
        at_each rules entry (λ m e. not (is_starting e.call)) (λ m e. StartsWell rules entry m e e.call) (λ m e h. unstarted m e e.call h) formed log checked.settled checked.starts

    records_due : AtEachEvent rules entry log (λ m e. WritesDue m e e.call)
    records_due =
        at_each rules entry (λ m e. not (is_writing e.call)) (λ m e. WritesDue m e e.call) (λ m e h. unwritten m e e.call h) formed log checked.settled checked.writes

    -- every moment is the last one, or one before an event
    every : (P : Moment → Type 0) → ((m : Moment) → moment_ok m ≡ true → P m) → EachMoment rules entry log P
    every P sure front [] m h is =
        at_the_end rules entry formed log checked.settled P
        (sure (last rules entry log) (and_left (moment_ok (last rules entry log)) (none_left_at (thorough status) (last rules entry log)) checked.end)) m
        (subst (λ es. IsMoment rules entry es m) (sym (h ∙ nil_right front)) is)
    every P sure front (e ∷ rest) m h is = sure m (each_ok front e rest m h is).moment

    is_done : status ≤ 1 → (e : Event) (m : Moment) → EventIsOk status m e → IsTrue (is_wait e.call) → NothingLeft rules m
    is_done low e m ok wait =
        left_well m
        (subst (λ b. none_left_at (b && true) m ≡ true) (is_thorough status low) (subst (λ b. none_left_at (thorough status && b) m ≡ true) wait ok.left))

    end_done : status ≤ 1 → NothingLeft rules (last rules entry log)
    end_done low =
        left_well (last rules entry log)
        (subst (λ b. none_left_at b (last rules entry log) ≡ true) (is_thorough status low)
        (and_right (moment_ok (last rules entry log)) (none_left_at (thorough status) (last rules entry log)) checked.end))

    -- so the log is lawful
    pub lawful : Lawful rules entry log status
    lawful =
        record {
          each = λ events e rest m h is.
              let ok = each_ok events e rest m h is in
              record {
                changes = changes_are_well rules entry m e ok.changes;
                begins = begins_well m e ok.begins;
                starts = starts_well events e rest m h is;
                writes = writes_well m e e.call (records_due events e rest m h is);
                waits = waits_well m e.call ok.waits;
              };
          within_room = every (λ m. IsTrue (fit_together rules (running_jobs m))) (λ m t. and_left (fit_together rules (running_jobs m)) (list_all (has_cause m) m.begun) t);
          nothing_left = λ low events e rest m h is. is_done low e m (each_ok events e rest m h is);
          nothing_left_at_the_end = λ low. at_the_end rules entry formed log checked.settled (NothingLeft rules) (end_done low);
          all_waited = checked.waited;
          closed_with_cause = every (ClosedWithCause rules) (λ m t.
              each_true (has_cause m) (λ (b : Begun). IsTrue (is_closed_badly rules m.world b) → is_good_end b.ended ≡ false) (caused m) m.begun
              (and_right (fit_together rules (running_jobs m)) (list_all (has_cause m) m.begun) t));
        }

  -- ## A start

  abbrev is_firm : NodeState → Bool
  is_firm (Known (Some n) (OneOf [])) = true
  is_firm s = false

  abbrev has_firm_mark : World → Path → Bool
  has_firm_mark w p = is_firm (w.nodes (mark_place p))

  firm_so : (w : World) (p : Path) (s : NodeState) → w.nodes (mark_place p) ≡ s → is_firm s ≡ true → IsFirmlyMarked w p
  firm_so w p Owned e t = absurd (true≢false (sym t))
  firm_so w p (Known None besides) e t = absurd (true≢false (sym t))
  firm_so w p (Known (Some n) Anything) e t = absurd (true≢false (sym t))
  firm_so w p (Known (Some n) (OneOf [])) e t = (n, e)
  firm_so w p (Known (Some n) (OneOf (o ∷ os))) e t = absurd (true≢false (sym t))

  -- the test of a start
  abbrev pub start_ok : Moment → Begun → Bool
  start_ok m b =
      is_none b.ended
      && (not (runs m.world b.job)
      && (is_none (rules.missing b.job) && (list_all (is_safe rules m) (in_paths b.job.recipe) && list_all (has_firm_mark m.world) (out_paths b.job.recipe))))

  none_so : {A : Type 0} (x : Option A) → is_none x ≡ true → x ≡ None
  none_so None h = refl
  none_so (Some y) h = absurd (true≢false (sym h))

  pub started : (m : Moment) (b : Begun) → start_ok m b ≡ true → IsStartOf rules m b
  started m b t =
      let marks = list_all (has_firm_mark m.world) (out_paths b.job.recipe) in
      let safe = list_all (is_safe rules m) (in_paths b.job.recipe) in
      let x = and_right (is_none b.ended) _ t in
      let y = and_right (not (runs m.world b.job)) _ x in
      let z = and_right (is_none (rules.missing b.job)) (safe && marks) y in
      record {
        unended = none_so b.ended (and_left (is_none b.ended) _ t);
        idle = so_false (runs m.world b.job) (and_left (not (runs m.world b.job)) _ x);
        has_fields = none_so (rules.missing b.job) (and_left (is_none (rules.missing b.job)) (safe && marks) y);
        inputs = each_true (is_safe rules m) (IsSafeInput rules m) (safe_input rules m) (in_paths b.job.recipe) (and_left safe marks z);
        marks = each_true (has_firm_mark m.world) (IsFirmlyMarked m.world) (λ p h. firm_so m.world p (m.world.nodes (mark_place p)) refl h) (out_paths b.job.recipe) (and_right safe marks z);
      }
