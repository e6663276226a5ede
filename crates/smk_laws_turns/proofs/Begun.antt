-- The steps at which a job begins, or doesn't: it is refused, or a call fails.
use Rattle.std.proofs.Common.{◌≡◌, ◌≢◌, inl, inr, ℕ, true, false, List, [], ◌∷◌, ◌++◌, refl, sym, ap, subst, ◌∙◌, None}
use Rattle.std.proofs.lemmas.Bool.{cases_Bool}
use Rattle.smk_world.specs.declared.event.Event.{Event}
use Rattle.smk_world.specs.declared.recipe.Recipe.{Recipe}
use Rattle.smk_world.specs.World.{World, run, out_paths}
use Rattle.smk_world.specs.Devices.{AreLooks}
use Rattle.smk_world.specs.Runs.{Follows}
use Rattle.smk_world.specs.Trees.{Path}
use Rattle.smk_record.specs.declared.record.Record.{Record}
use Rattle.smk_record.specs.declared.record.Stamp.{Stamp}
use Rattle.smk_store.specs.Soundness.{Outside}
use Rattle.smk_store.specs.Trust.{Versions}
use Rattle.smk_flow.specs.declared.job.Job.{Job}
use Rattle.smk_trigger.specs.declared.reason.State.{State}
use Rattle.smk_pick.specs.Rooms.{threads_in}
use Rattle.smk_laws_protocol.specs.Protocol.{OpenJob, RunState, Running, Runs, Done as Nothing}
use Rattle.smk_laws_protocol.proofs.Basics.{each_on}
use Rattle.smk_job.specs.Jobs.{Underway, too_long}
use Rattle.smk_run.specs.Runs.{AreWritable}
use Rattle.smk_run.proofs.Calls.{each_append}
use Rattle.smk_safe.proofs.Done.{follows_split}
use Rattle.smk_laws_job.specs.Laws.{HasOwnFolder, stopped}
use Rattle.smk_laws_job.proofs.Beginning.{beginning_runs}
use Rattle.smk_laws_job.proofs.Parts.{beginning_fails}
use Rattle.smk_laws_plan.proofs.CurrentLists.{in_left, in_right}
use Rattle.smk_safe.proofs.Joining.{looks_same, now_same, runs_then}
use Rattle.smk_safe.proofs.Turning.{begin_as, serial_as}
use Rattle.smk_drive.specs.Moments.{Rules, Begun, begun_of, seen}
use Rattle.smk_drive_course.specs.Stands.{Stand, moment_of, with_job}
use Rattle.smk_drive_course.specs.Steps.{Deed, HasBegun, HasHalted, IsToBegin}
use Rattle.smk_drive_course.specs.Breaks.{HasNotBegun, HasNotRead}
use Rattle.smk_laws_moments.specs.Opened.{AreStillPlanned, IsOf, IsOpen, IsStateOf, IsLeft, Runs as RunsHere, beginning, found_by, opened}
use Rattle.smk_laws_moments.specs.Starting.{MayOpen, StartableMayBegin, top_with}
use Rattle.smk_laws_turns.specs.Following.{HasCome, IsGiven, LeadsTo}
use Rattle.smk_laws_turns.proofs.Coming.{own_folder_free}
use Rattle.smk_laws_turns.proofs.Looking.{look_calls, looks_fail, looks_run}
use Rattle.smk_laws_turns.proofs.StandStates.{broken_is, goes_later, halted_later, later_then, reopened, replanned_later, state_broken, state_later}
use Rattle.smk_laws_turns.proofs.Waited.{midway_on}

-- ## The state once a job has begun

module _ (o : Outside) (rules : Rules) (entry : World) (s : Stand) (state : RunState) (is_state : IsStateOf rules entry s state)
    (w : World) (before : List Event) (e : Job × State) (g : Underway) (kept : List (Path × Record)) (v : World)
    (to_begin : IsToBegin rules entry s w before e g.made g.stamps) (may : MayOpen o state v e kept g.made g.stamps
    (top_with rules entry s (begun_of rules entry (moment_of s w before) e)))
    (recipe : e.0.recipe ≡ g.recipe) (logs : e.0.logs ≡ g.logs) where
  abbrev b : Begun
  b = begun_of rules entry (moment_of s w before) e

  abbrev t : Stand
  t = with_job b g s

  abbrev mine : OpenJob
  mine = opened g kept (Running g.number)

  abbrev begun_state : RunState
  begun_state = record state { jobs = mine ∷ state.jobs; top = top_with rules entry s b }

  mine_open : IsOpen t (mine ∷ state.jobs) g
  mine_open =
      record {
        begun = b;
        has_begun = in_right b s.begun (b ∷ []) (inl refl);
        unended = refl;
        recipe = recipe;
        logs = logs;
        serial = sym to_begin.serial;
        stamps = sym to_begin.stamped;
        kept = kept;
        is_open = inl refl;
        restored = may.restored;
        drawn = may.drawn;
        makes = subst (λ (r : Recipe). out_paths r ≢ []) recipe may.makes;
        fits = to_begin.fits;
        writable = subst (λ (r : Recipe). AreWritable g.made r g.stamps) recipe to_begin.writable;
        short = subst (λ (r : Recipe). too_long g.made r g.stamps ≡ None) recipe to_begin.short;
      }

  of_before : (k : OpenJob) → IsOf s k → IsOf t k
  of_before k (RunsHere x kept i) = RunsHere x kept (in_left x s.runs (g ∷ []) i)
  of_before k (IsLeft x kept status was) = IsLeft x kept status was

  pub state_begun : IsStateOf rules entry t begun_state
  state_begun =
      record {
        running = each_append (IsOpen t (mine ∷ state.jobs)) s.runs (g ∷ [])
            (each_on (IsOpen s state.jobs) (IsOpen t (mine ∷ state.jobs))
            (λ x k. reopened rules entry s t state.jobs (mine ∷ state.jobs) x k (in_left k.begun s.begun (b ∷ []) k.has_begun) (inr k.is_open)) s.runs
            is_state.running)
            (mine_open, tt);
        jobs = (RunsHere g kept (in_right g s.runs (g ∷ []) (inl refl)), each_on (IsOf s) (IsOf t) of_before state.jobs is_state.jobs);
        top = λ none. refl;
        steady = is_state.steady;
        faulted = is_state.faulted;
        halted = is_state.halted;
      }

-- where no fault has come none of the device has
pub unbroken : (rules : Rules) (entry : World) (s : Stand) (state : RunState) → IsStateOf rules entry s state → s.halted ≡ None → s.broken ≡ false
unbroken rules entry s state h none = elim (cases_Bool s.broken) [ inl broken ↦ absurd (h.halted broken none) | inr calm ↦ calm ]

module _ (o : Outside) (rules : Rules) (entry : World) (H : Versions) (top : ℕ) (given : IsGiven o rules entry H top) (starting : StartableMayBegin)
    (before : List Event) (s : Stand) (state : RunState)
    (come : HasCome o entry top before state) (is_state : IsStateOf rules entry s state) (planned : AreStillPlanned s) where
  abbrev w : World
  w = run entry before

  -- ## A job that is next

  -- what holds of it once sources have been read
  record IsSet (e : Job × State) (made : ℕ) (stamps : List Stamp) (u : World) : Type 0 where
    pub open_now : MayOpen o state u e (found_by (seen rules w) e) made stamps (top_with rules entry s (begun_of rules entry (moment_of s w before) e))
    pub free : HasOwnFolder u
    pub calm : state.faulted ≡ false
    pub steady : state.steady ≡ true

  set_after : (e : Job × State) (made : ℕ) (stamps : List Stamp) (reads : List Event) → IsToBegin rules entry s w before e made stamps → AreLooks false reads →
      Follows o.act w reads
      → IsSet e made stamps (run w reads)
  set_after e made stamps reads to_begin only follows =
      let none = to_begin.next.clear.unhalted in
      let calm = is_state.faulted ∙ unbroken rules entry s state is_state none in
      let m = midway_on o rules entry H top given before s state come is_state [] state tt (looks_run o state w [] calm refl) in
      let k = starting o rules entry w H before s state e made stamps given.reader m is_state planned to_begin in
      let same = now_same o w (run w reads) (looks_same o w reads (look_calls o false reads only) follows) in
      let n = midway_on o rules entry H top given before s state come is_state reads state follows (looks_run o state w reads calm only) in
      let j = beginning e.0 made stamps (found_by (seen rules w) e) in
      record {
        open_now = record {
          begins = begin_as o state w (run w reads) j same k.begins;
          has_serial = serial_as o state w (run w reads) j (top_with rules entry s (begun_of rules entry (moment_of s w before) e)) same k.has_serial;
          makes = k.makes;
          restored = k.restored;
          drawn = k.drawn;
        };
        free = own_folder_free o entry H state (run w reads) n;
        calm = calm;
        steady = is_state.steady none;
      }

  -- ## It begins

  pub begins : (es : List Event) (deeds : List Deed) (t : Stand) → Follows o.act w es → HasBegun rules entry s w before es deeds t →
      LeadsTo o rules entry state w es t
  begins es deeds t follows h =
      let e = h.job in
      let g = h.going in
      let f = follows_split o.act w h.reads h.beginning (subst (Follows o.act w) h.events follows) in
      let u = run w h.reads in
      let set = set_after e g.made g.stamps h.reads h.to_begin h.only_read f.0 in
      let kept = found_by (seen rules w) e in
      let recipe : e.0.recipe ≡ g.recipe = sym (ap (λ (x : Underway). x.recipe) h.is) in
      let logs : e.0.logs ≡ g.logs = sym (ap (λ (x : Underway). x.logs) h.is) in
      let b = begun_of rules entry (moment_of s w before) e in
      let end : RunState = begun_state o rules entry s state is_state w before e g kept u h.to_begin set.open_now recipe logs in
      let its : (record (beginning e.0 g.made g.stamps kept) { phase = Running g.number }) ≡ opened g kept (Running g.number) = sym
      (ap (λ (x : Underway). opened x kept (Running g.number)) h.is) in
      let starts : Runs o state u h.beginning end =
      subst (λ (j : OpenJob). Runs o state u h.beginning (record state { jobs = j ∷ state.jobs; top = top_with rules entry s b })) its
      (beginning_runs o state (beginning e.0 g.made g.stamps kept) (top_with rules entry s b) g.number
      (rules.command e.0 (threads_in rules.settings.cores e.0.threads)) u h.beginning set.calm set.steady
      set.open_now.begins set.open_now.has_serial refl set.open_now.makes set.free f.1 h.calls h.started) in
      let now_open = state_begun o rules entry s state is_state w before e g kept u h.to_begin set.open_now recipe logs in
      record {
        end = end;
        runs = subst (λ l. Runs o state w l end) (sym h.events) (runs_then o end h.beginning state state w h.reads
            (looks_run o state w h.reads set.calm h.only_read) starts);
        is_state = state_later rules entry (with_job b g s) t end
            (later_then (with_job b g s) h.next t (replanned_later rules (with_job b g s) h.next (run w es) h.replanned)
            (goes_later rules entry h.next t (run w es) (before ++ es) h.goes_by)) now_open;
      }

  -- ## A call fails

  pub begins_not : (es : List Event) (deeds : List Deed) (t : Stand) → Follows o.act w es → HasNotBegun rules entry s w before es deeds t →
      LeadsTo o rules entry state w es t
  begins_not es deeds t follows h =
      let e = h.job in
      let f = follows_split o.act w h.reads h.beginning (subst (Follows o.act w) h.events follows) in
      let u = run w h.reads in
      let set = set_after e h.made h.stamps h.reads h.to_begin h.only_read f.0 in
      let kept = found_by (seen rules w) e in
      let drawn = top_with rules entry s (begun_of rules entry (moment_of s w before) e) in
      let end : RunState = record (stopped o state) { top = drawn } in
      record {
        end = end;
        runs = subst (λ l. Runs o state w l end) (sym h.events)
            (runs_then o end h.beginning state state w h.reads (looks_run o state w h.reads set.calm h.only_read)
            (beginning_fails o state (beginning e.0 h.made h.stamps kept) drawn (rules.command e.0 (threads_in rules.settings.cores e.0.threads)) u h.beginning
            set.calm set.steady set.open_now.begins
            set.open_now.has_serial refl set.open_now.makes set.free f.1 h.calls));
        is_state = state_broken rules entry o s t state drawn (broken_is rules entry s t h.leaves) is_state;
      }

  pub reads_not : (es : List Event) (deeds : List Deed) (t : Stand) → HasNotRead rules entry s w before es deeds t → LeadsTo o rules entry state w es t
  reads_not es deeds t h =
      record {
        end = stopped o state;
        runs = looks_fail o state w es (is_state.faulted ∙ unbroken rules entry s state is_state h.next.clear.unhalted) h.reads;
        is_state = state_broken rules entry o s t state state.top (broken_is rules entry s t h.leaves) is_state;
      }

  -- ## No job begins any more

  pub halts : (es : List Event) (deeds : List Deed) (t : Stand) → HasHalted rules entry s w before es deeds t → LeadsTo o rules entry state w es t
  halts es deeds t h =
      record {
        end = state;
        runs = elim (cases_Bool s.broken) [
          | inl broken ↦ subst (λ l. Runs o state w l state) (sym (h.quiet broken)) (stays state w)
          | inr calm ↦ looks_run o state w es (is_state.faulted ∙ calm) h.only_read
        ];
        is_state = subst (λ y. IsStateOf rules entry y state) (sym h.leaves) (state_later rules entry s _ state (halted_later s h.why) is_state);
      }
    where
      stays : (st : RunState) (x : World) → Runs o st x [] st
      stays st x = Nothing st x
