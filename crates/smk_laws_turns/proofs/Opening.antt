-- A run begins: what is found is made firm.
use Rattle.std.proofs.Common.{◌≡◌, ◌≢◌, ℕ, ◌+◌, true, false, List, [], ◌∷◌, ◌++◌, refl, sym, ap, subst, ◌∙◌, arith, Option, None, Result, true≢false}
use Rattle.smk_world.specs.declared.event.Event.{Event}
use Rattle.smk_world.specs.World.{World, run}
use Rattle.smk_world.specs.Devices.{AreLooks}
use Rattle.smk_world.specs.Runs.{Follows}
use Rattle.smk_world.specs.Requests.{HasDone, IsCutShort}
use Rattle.smk_world.specs.Requests.Request.{Settle}
use Rattle.smk_world.specs.Trees.{Each, Path}
use Rattle.smk_store.specs.Images.{Image, seen as image_seen}
use Rattle.smk_store.specs.Soundness.{Outside}
use Rattle.smk_plan.specs.States.{Plan}
use Rattle.smk_report.specs.declared.fault.Fault.TheVariants as fault
use Rattle.smk_keep.specs.declared.fault.KeepFault.{KeepFault}
use Rattle.smk_laws_protocol.specs.Protocol.{HasAllMarks, RunState, Runs, Aside, Besides, Fail, Settle as SettleMove, Steady, as_ok, now}
use Rattle.smk_laws_protocol.specs.Midway.{at_entry}
use Rattle.smk_laws_job.specs.Laws.{stopped}
use Rattle.smk_laws_job.proofs.Abandoning.{settled_call}
use Rattle.smk_laws_job.proofs.Called.{as_settled}
use Rattle.smk_safe.proofs.Done.{follows_split}
use Rattle.smk_safe.proofs.Joining.{looks_same, now_same, runs_then}
use Rattle.smk_drive.specs.Moments.{Rules, greatest, seen}
use Rattle.smk_drive_course.specs.Stands.{Stand, broken_by_device, first_stand}
use Rattle.smk_drive_course.specs.Steps.{GoesByAnswer}
use Rattle.smk_drive_course.specs.Driven.{HasSigns, IsOpening, LacksMemory, LoadingFails, LooksFail, Opens, SettlingFails}
use Rattle.smk_laws_moments.specs.Opened.{IsOf, IsOpen, IsStateOf}
use Rattle.smk_laws_turns.specs.Following.{LeadsTo}
use Rattle.smk_laws_turns.proofs.Coming.{one_step}
use Rattle.smk_laws_turns.proofs.Looking.{look_calls, looks_fail, looks_run}
use Rattle.smk_laws_turns.proofs.StandStates.{goes_later, halted_some, state_later}

module _ (o : Outside) (rules : Rules) (entry : World) (reader : rules.read ≡ o.read) where
  abbrev top : ℕ
  top = greatest rules (seen rules entry)

  abbrev first : RunState
  first = at_entry o top

  abbrev steady : RunState
  steady = record first { steady = true }

  none_more : (n : ℕ) → n ≡ n + 0
  none_more n = omega arith

  -- nothing has begun, and what was found is firm
  steady_state : (plan : Option Plan) → IsStateOf rules entry (first_stand plan) steady
  steady_state plan =
      record {
        running = tt;
        jobs = tt;
        top = λ none. none_more top;
        steady = λ none. refl;
        faulted = refl;
        halted = λ broken. absurd (true≢false (sym broken));
      }

  -- nothing has begun, and nothing will
  idle_state : (t : Stand) (state : RunState) → t.runs ≡ [] → state.jobs ≡ [] → state.faulted ≡ t.broken → t.halted ≢ None → IsStateOf rules entry t state
  idle_state t state runs jobs faulted halted =
      record {
        running = subst (Each (IsOpen t state.jobs)) (sym runs) tt;
        jobs = subst (Each (IsOf t)) (sym jobs) tt;
        top = λ none. absurd (halted none);
        steady = λ none. absurd (halted none);
        faulted = faulted;
        halted = λ broken. halted;
      }

  -- ## What is made firm

  all_marks : (places : List Path) → HasSigns (seen rules entry) places → HasAllMarks o (now o entry) places
  all_marks places h =
      subst (λ (i : Image). HasAllMarks o i places) (ap (λ read. image_seen read entry) reader) (record { marks = h.marks; notes = h.notes })

  same_now : (loading : List Event) → AreLooks false loading → Follows o.act entry loading → now o (run entry loading) ≡ now o entry
  same_now loading only follows = now_same o entry (run entry loading) (looks_same o entry loading (look_calls o false loading only) follows)

  settles : (loading settling : List Event) (places : List Path) → AreLooks false loading → Follows o.act entry loading → HasSigns (seen rules entry) places →
      HasDone (Settle places ∷ []) settling
      → Runs o first (run entry loading) settling steady
  settles loading [] places only follows signs done = absurd done
  settles loading (e ∷ (f ∷ es)) places only follows signs done = absurd done.2
  settles loading (e ∷ []) places only follows signs done =
      one_step o first steady (run entry loading) e
      (Steady e places refl refl (settled_call e.call places done.0 done.1) (subst (λ (i : Image). HasAllMarks o i places)
      (sym (same_now loading only follows)) (all_marks places signs)))

  settling_fails : (places : List Path) (w : World) (es : List Event) → IsCutShort (Settle places ∷ []) es → Runs o first w es (stopped o first)
  settling_fails places w [] cut = absurd cut
  settling_fails places w (e ∷ (f ∷ es)) cut = absurd cut.2
  settling_fails places w (e ∷ []) cut =
      one_step o first (stopped o first) w e
      (Fail e first cut.1 (Aside (record e { call = as_ok e.call }) refl (subst (Besides o first w) (sym (as_settled e.call places cut.0))
      (SettleMove places))))

  -- ## All of it

  broken_state : (plan : Option Plan) (t : Stand) (state : RunState) → t ≡ broken_by_device (first_stand plan) → state.jobs ≡ [] → state.faulted ≡ true →
      IsStateOf rules entry t state
  broken_state plan t state e none faulted =
      idle_state t state (ap (λ (x : Stand). x.runs) e) none (faulted ∙ sym (ap (λ (x : Stand). x.broken) e))
      (λ h. halted_some (first_stand plan) fault.Device (sym (ap (λ (x : Stand). x.halted) e) ∙ h))

  -- the events of an opening lead to a state of the stand at which the run starts
  pub opening_leads : (plan : Option Plan) (answer : Result (Unit {0}) KeepFault) (es : List Event) (start : Stand) → IsOpening rules entry answer es →
      Follows o.act entry es
      → GoesByAnswer rules entry answer (first_stand plan) entry [] start → LeadsTo o rules entry first entry es start
  opening_leads plan answer es start (Opens loading settling looks places loaded signs done looked) follows goes =
      let f = follows_split o.act entry loading (settling ++ looks) follows in
      let u = run entry loading in
      record {
        end = steady;
        runs = runs_then o steady (settling ++ looks) first first entry loading (looks_run o first entry loading refl loaded)
            (runs_then o steady looks first steady u settling (settles loading settling places loaded f.0 signs done)
            (looks_run o steady (run u settling) looks refl looked));
        is_state = state_later rules entry (first_stand plan) start steady (goes_later rules entry (first_stand plan) start entry [] goes) (steady_state plan);
      }
  opening_leads plan answer es start (LacksMemory loading loaded) follows goes =
      record {
        end = first;
        runs = looks_run o first entry loading refl loaded;
        is_state = idle_state start first (ap (λ (x : Stand). x.runs) goes) refl (sym (ap (λ (x : Stand). x.broken) goes))
            (λ h. halted_some (first_stand plan) fault.OutOfMemory (sym (ap (λ (x : Stand). x.halted) goes) ∙ h));
      }
  opening_leads plan answer es start (LoadingFails loading loaded) follows goes =
      record { end = stopped o first; runs = looks_fail o first entry loading refl loaded; is_state = broken_state plan start (stopped o first) goes refl refl }
  opening_leads plan answer es start (SettlingFails loading settling places loaded signs cut) follows goes =
      record {
        end = stopped o first;
        runs = runs_then o (stopped o first) settling first first entry loading (looks_run o first entry loading refl loaded)
            (settling_fails places (run entry loading) settling cut);
        is_state = broken_state plan start (stopped o first) goes refl refl;
      }
  opening_leads plan answer es start (LooksFail loading settling looks places loaded signs done looked) follows goes =
      let f = follows_split o.act entry loading (settling ++ looks) follows in
      let u = run entry loading in
      record {
        end = stopped o steady;
        runs = runs_then o (stopped o steady) (settling ++ looks) first first entry loading (looks_run o first entry loading refl loaded)
            (runs_then o (stopped o steady) looks first steady u settling (settles loading settling places loaded f.0 signs done)
            (looks_fail o steady (run u settling) looks refl looked));
        is_state = broken_state plan start (stopped o steady) goes refl refl;
      }
