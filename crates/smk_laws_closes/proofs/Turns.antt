-- The turn of a run that waits for a child: the steps that it makes.
use Rattle.std.proofs.Common.{◌≡◌, ◌≢◌, false, ◌||◌, List, [], ◌∷◌, ◌++◌, refl, sym, ap, subst, ◌∙◌, inl, inr, Option, Some, None, Result, Ok, Err, append-nil, append_assoc}
use Rattle.std.proofs.Math.Bool.{or-false}
use Rattle.std.specs.List.{slice_get}
use Rattle.smk_world.specs.declared.event.Change.{Change}
use Rattle.smk_world.specs.declared.event.Ended.{Ended}
use Rattle.smk_world.specs.declared.event.Event.{Event}
use Rattle.smk_world.specs.declared.event.WorkFault.TheVariants as work
use Rattle.smk_world.specs.Calls.{HasOwners}
use Rattle.smk_world.specs.Runs.{Follows}
use Rattle.smk_world.specs.Trees.{Act}
use Rattle.smk_world.specs.World.{World, after, run}
use Rattle.smk_flow.specs.declared.job.Job.{Job}
use Rattle.smk_flow.specs.Flows.{Flow}
use Rattle.smk_pick.specs.declared.room.Room.{Room}
use Rattle.smk_pick.specs.declared.settings.Settings.{Settings}
use Rattle.smk_pick.specs.Shares.{Holds}
use Rattle.smk_report.specs.declared.fault.Fault.{Fault}
use Rattle.smk_report.specs.declared.fault.Fault.TheVariants as fault
use Rattle.smk_run.specs.Closings.{HasSettled, wait_event}
use Rattle.smk_drive.specs.Moments.{Rules}
use Rattle.smk_drive_outcome.specs.declared.outcome.Outcome.{Outcome}
use Rattle.smk_drive_step.specs.declared.children.Child.{Child}
use Rattle.smk_drive_step.specs.Crews.{IsPutFor, is_device, or_later}
use Rattle.smk_world.specs.Trees.{IsIn}
use Rattle.smk_laws_closes.specs.Closes.{counted_end}
use Rattle.smk_drive_course.specs.Stands.{NoneLeft, Stand, broken_by_device, halted_by, without_child}
use Rattle.smk_drive_course.specs.Steps.{Deed, IsWaitFor}
use Rattle.smk_drive_course.specs.Breaks.{Done, HasBrokenOff, HasLeft, Steps, Then}
use Rattle.smk_plan_live.specs.Live.{LivePlan}
use Rattle.smk_drive_first.specs.Opening.{AreRules}
use Rattle.smk_drive_hub.specs.Keeping.{heeded}
use Rattle.smk_drive_hub.specs.Turned.{WhereUnhalted}
use Rattle.smk_drive.specs.Moments.{seen}
use Rattle.smk_laws_turns.specs.Going.{HasGoneTo}
use Rattle.smk_laws_turns.specs.Hubs.{IsAt, Parts, asks_in}
use Rattle.smk_laws_turns.specs.Turning.{HasLed, faulted}
use Rattle.smk_laws_turns.proofs.Going.{goes_on_from}
use Rattle.smk_laws_turns.proofs.Turning.{closing_breaks, halt_leads, leaving_leads, wait_leads}
use Rattle.smk_laws_turns.proofs.Homes.{home_stays}
use Rattle.smk_laws_moments.proofs.ChildrenOf.{run_more}
use Rattle.smk_laws_turns.specs.Resting.{IsTold}
use Rattle.smk_laws_turns.specs.GrowingRounds.{HasGrownOn}
use Rattle.smk_laws_closes.specs.Learning.{HasLearnt, IsSamePlan, IsToldOf, LookFails, LooksShort, closed_base}
use Rattle.smk_laws_protocol.proofs.Basics.{in_here}
use Rattle.smk_laws_closes.specs.Closes.{ClosedLeads, GrownLeads, GuardFails, HasClosedFor, HasDone, HasNotedEnd, HasTended, IsCut, IsDone, IsLeft, IsLineFault, IsNone, IsUnguarded, Learns, WaitedLeads, WasHalted, taken}
use Rattle.smk_laws_closes.proofs.Answered.{learnt_leads}
use Rattle.smk_laws_closes.proofs.Basis.{Closing, closed_world, in_going, wait}
use Rattle.smk_laws_closes.proofs.Grown.{grown_leads, with_more}
use Rattle.smk_laws_closes.proofs.Laws.{Laws}
use Rattle.smk_laws_closes.proofs.Leading.{IsNotedAt, all_events, guard_fails, told_of, unguarded, was_halted}
use Rattle.smk_laws_closes.proofs.Tended.{followed}

-- ## One step

pub one_step :
    (rules : Rules) (entry : World) (k : Parts) (s : Stand) (w : World) (before es : List Event) (deeds more : List Deed) →
    HasLed rules entry k s w before es deeds more → HasGoneTo rules entry k s w before es deeds more
one_step rules entry k s w before es deeds more led =
    record {
      stand = led.stand;
      steps =
          subst (λ ds. Steps rules entry s w before es ds led.stand) (append-nil more)
          (subst (λ fs. Steps rules entry s w before fs (more ++ []) led.stand) (append-nil es)
          (Then s led.stand led.stand w before es [] more [] led.step (Done led.stand (run w es) (before ++ es))));
      at = led.at;
    }

-- where a fault has come the room may be another one
other_room :
    (rules : Rules) (entry : World) (k : Parts) (s : Stand) (w : World) (before : List Event) (deeds : List Deed) (room : Room) →
    s.halted ≢ None → IsAt rules entry k s w before deeds → IsAt rules entry (record k { room = room }) s w before deeds
other_room rules entry k s w before deeds room came at =
    record {
      live = at.live;
      settings = at.settings;
      derived = at.derived;
      home = at.home;
      ours = at.ours;
      sourced = at.sourced;
      planned = at.planned;
      listed = at.listed;
      crew = at.crew;
      spaced = at.spaced;
      underway = at.underway;
      children = at.children;
      theirs = at.theirs;
      halted = at.halted;
      waits = at.waits;
      starts = at.starts;
      counted = at.counted;
      faulted = at.faulted;
      kept = λ none. absurd (came none);
    }

led_with :
    (rules : Rules) (entry : World) (k : Parts) (s : Stand) (w : World) (before es : List Event) (deeds more : List Deed) (room : Room) →
    k.halt.fault ≢ None → HasLed rules entry k s w before es deeds more → HasLed rules entry (record k { room = room }) s w before es deeds more
led_with rules entry k s w before es deeds more room came led =
    record {
      stand = led.stand;
      step = led.step;
      at = other_room rules entry k led.stand (run w es) (before ++ es) (deeds ++ more) room (λ none. came (led.at.halted ∙ none)) led.at;
    }

-- ## What follows on the closing

no_fault : {A : Type 0} (f : Fault) → Some f ≡ None → A
no_fault f h = absurd (never h)
  where
    never : Some f ≡ None → ⊥
    never e = cc

-- a fault that came is there still
none_before : (a : Result (Unit {0}) Fault) (m : Parts) → (heeded a m).halt.fault ≡ None → m.halt.fault ≡ None
none_before (Ok u) m none = none
none_before (Err f) m none = no_fault (or_later m.halt.fault f) none

module _ (l : Laws) (x : Closing) (n : Parts) (noted : IsNotedAt x n) (flow : Flow) (settings : Settings) (by : AreRules flow settings x.rules) where
  tended_leads :
      (new : LivePlan) (outcome : Result (Unit {0}) Fault) (tending : List Event) → HasTended flow settings x.c.job x.job x.how n (closed_world x) new outcome tending →
      (heeded outcome (record n { live = new })).halt.fault ≢ None →
      Follows x.act x.w (all_events x tending) →
      HasLed x.rules x.entry (heeded outcome (record n { live = new })) x.s x.w x.before (all_events x tending) x.deeds (told_of x)
  tended_leads new outcome tending IsUnguarded came follows = unguarded x l n noted follows
  tended_leads new outcome tending (GuardFails guarding cut) came follows = guard_fails x l n noted guarding cut follows
  tended_leads new outcome tending (WasHalted guarding f guards was) came follows = was_halted x l n noted guarding f guards was follows
  tended_leads new outcome tending (Learns guarding looks new1 answer guards none plan learnt) came follows =
      let unhalted : x.s.halted ≡ None = sym x.at.halted ∙ (ap (λ h. h.fault) (sym noted.halt) ∙ none) in
      learnt_leads l x n noted flow settings by guarding looks guards unhalted follows new1
      (record {
        alive = plan.alive;
        settings_stay = plan.settings_stay ∙ ap (λ (p : LivePlan). p.settings) noted.live;
        jobs_stay = plan.jobs_stay ∙ ap (λ (p : LivePlan). p.base.jobs) noted.live;
      }) answer learnt plan came

  -- no fault has come, and the plan has grown
  tended_grown :
      (new : LivePlan) (outcome : Result (Unit {0}) Fault) (tending more : List Event) (k : Parts) →
      HasTended flow settings x.c.job x.job x.how n (closed_world x) new outcome tending →
      (heeded outcome (record n { live = new })).halt.fault ≡ None →
      HasGrownOn flow settings (run (closed_world x) tending) (heeded outcome (record n { live = new })) k more →
      Follows x.act x.w (all_events x tending ++ more) → HasLed x.rules x.entry k x.s x.w x.before (all_events x tending ++ more) x.deeds (told_of x)
  tended_grown new outcome tending more k IsUnguarded none grown follows = no_fault (or_later n.halt.fault fault.OutOfMemory) none
  tended_grown new outcome tending more k (GuardFails guarding cut) none grown follows = no_fault (or_later n.halt.fault fault.Device) none
  tended_grown new outcome tending more k (WasHalted guarding f guards was) none grown follows = no_fault f (sym was ∙ none)
  tended_grown new outcome tending more k (Learns guarding looks new1 answer guards none_yet plan learnt) none grown follows = go answer learnt none grown
    where
      unhalted : x.s.halted ≡ None
      unhalted = sym x.at.halted ∙ (ap (λ h. h.fault) (sym noted.halt) ∙ none_yet)

      same : IsSamePlan x.h.live new1
      same =
          record {
            alive = plan.alive;
            settings_stay = plan.settings_stay ∙ ap (λ (p : LivePlan). p.settings) noted.live;
            jobs_stay = plan.jobs_stay ∙ ap (λ (p : LivePlan). p.base.jobs) noted.live;
          }

      told_by : (o : Outcome) → IsTold settings (closed_base x.c.job o n.live.base) new1 → IsTold x.rules.settings (closed_base x.c.job o x.h.live.base) new1
      told_by o told =
          subst (λ (t : Settings). IsTold t (closed_base x.c.job o x.h.live.base) new1) (sym by.settings_are)
          (subst (λ (p : LivePlan). IsTold settings (closed_base x.c.job o p.base) new1) noted.live told)

      go :
          (a : Result (Unit {0}) Fault) → HasLearnt flow settings x.c.job x.job n.live new1 (run (closed_world x) guarding) looks a →
          (heeded a (record n { live = new1 })).halt.fault ≡ None →
          HasGrownOn flow settings (run (closed_world x) (guarding ++ looks)) (heeded a (record n { live = new1 })) k more →
          HasLed x.rules x.entry k x.s x.w x.before (all_events x (guarding ++ looks) ++ more) x.deeds (told_of x)
      go a (LookFails looked) none grown = no_fault (or_later n.halt.fault fault.Device) none
      go a (LooksShort looked) none grown = no_fault (or_later n.halt.fault fault.OutOfMemory) none
      go a (IsToldOf o (Err f) quiet outcome answers other) none grown = no_fault (or_later n.halt.fault f) none
      go a (IsToldOf o (Ok u) quiet outcome answers other) none grown =
          subst (λ es. HasLed x.rules x.entry k x.s x.w x.before es x.deeds (told_of x)) (sym (with_more (wait x ∷ x.closing) guarding looks more))
          (grown_leads l x n noted flow settings by guarding looks more guards quiet unhalted
          (subst (Follows x.act x.w) (with_more (wait x ∷ x.closing) guarding looks more) follows) o new1 same
          (told_by o (answers (ap (λ (p : LivePlan). p.settings) noted.live ∙ (x.at.settings ∙ by.settings_are))).0) k outcome
          (subst (λ v. HasGrownOn flow settings v (record n { live = new1 }) k more) (sym (run_more x.w (wait x ∷ x.closing) (guarding ++ looks))) grown))

-- ## A turn

module _ (l : Laws) (act : Act) (flow : Flow) (settings : Settings) (h : Parts) (c : Child) (places : List (Option Child)) (room : Room) (ended : Ended) (left : List Change)
    (w : World) (whole : h.halt.only_waits ≡ false) (put : IsPutFor (Some c) None h.places places) (holds : Holds settings.cores settings.bounds room (asks_in places))
    (none_left : WhereUnhalted NoneLeft flow settings h w) (number : ended.number ≡ c.going.number) (owners : HasOwners w)
    (rules : Rules) (entry : World) (s : Stand) (before : List Event) (deeds : List Deed) (by : AreRules flow settings rules) (at : IsAt rules entry h s w before deeds) where
  abbrev waiting : Event
  waiting = wait_event ended left

  unbroken : s.broken ≡ false
  unbroken = sym at.waits ∙ whole

  was_there : IsIn h.places (Some c)
  was_there = subst (λ ps. IsIn ps (Some c)) (sym put.were_so) (in_here put.before put.after (Some c))

  waited : IsWaitFor c.going ended s
  waited = record { ran = at.crew.run c.going (in_going h.places c was_there); number = number }

  left_then : s.halted ≡ None → NoneLeft rules s w before
  left_then none = none_left rules entry s before deeds by at none

  faulted_some : (f : Fault) (k : Parts) → (faulted f k).halt.fault ≢ None
  faulted_some f k none = never (or_later k.halt.fault f) none
    where
      never : (g : Fault) → Some g ≡ None → ⊥
      never g e = cc

  -- there was no memory to close the job
  left_leads : (es : List Event) → HasSettled c.going (Err work.OutOfMemory) ended.status (after w waiting) es → Follows act w (waiting ∷ es) →
      HasGoneTo rules entry (faulted fault.OutOfMemory (taken h places room)) s w before (waiting ∷ es) deeds []
  left_leads es settled follows =
      let t : Stand = halted_by fault.OutOfMemory (without_child (seen rules (after w waiting)) c.going ended.status s) in
      let step : HasLeft rules entry s w before (waiting ∷ es) [] t =
      record {
        going = c.going;
        ended = ended;
        left = left;
        looks = es;
        unbroken = unbroken;
        waited = waited;
        none_left = left_then;
        good = settled.0;
        events = refl;
        unclosed = settled.1;
        deeds_are = refl;
        leaves = refl;
      } in
      one_step rules entry (faulted fault.OutOfMemory (taken h places room)) s w before (waiting ∷ es) deeds []
      (led_with rules entry (faulted fault.OutOfMemory (record h { places = places })) s w before (waiting ∷ es) deeds [] room
      (faulted_some fault.OutOfMemory (record h { places = places }))
      (leaving_leads rules entry h s w before deeds places c (waiting ∷ es) t at put step refl (home_stays act entry w (waiting ∷ es) follows at.home)
      (l.left_ours rules entry h s w before deeds act c.going ended left es at owners unbroken waited settled.1 follows)))

  -- a call failed as it was closed
  cut_leads : (es : List Event) → HasSettled c.going (Err work.Failed) ended.status (after w waiting) es → Follows act w (waiting ∷ es) →
      HasGoneTo rules entry (faulted fault.Device (taken h places room)) s w before (waiting ∷ es) deeds []
  cut_leads es settled follows =
      let t : Stand = broken_by_device (without_child (seen rules (after w waiting)) c.going ended.status s) in
      let step : HasBrokenOff rules entry s w before (waiting ∷ es) [] t =
      record {
        going = c.going;
        ended = ended;
        left = left;
        rest = es;
        unbroken = unbroken;
        waited = waited;
        none_left = left_then;
        events = refl;
        unclosed = settled;
        deeds_are = refl;
        leaves = refl;
      } in
      one_step rules entry (faulted fault.Device (taken h places room)) s w before (waiting ∷ es) deeds []
      (led_with rules entry (faulted fault.Device (record h { places = places })) s w before (waiting ∷ es) deeds [] room
      (faulted_some fault.Device (record h { places = places }))
      (closing_breaks rules entry h s w before deeds places c (waiting ∷ es) t at put step refl (home_stays act entry w (waiting ∷ es) follows at.home)))

  rules_holds : (n : Room) → n ≡ room → Holds rules.settings.cores rules.settings.bounds n (asks_in places)
  rules_holds n same =
      subst (λ (r : Room). Holds rules.settings.cores rules.settings.bounds r (asks_in places)) (sym same)
      (subst (λ (t : Settings). Holds t.cores t.bounds room (asks_in places)) (sym by.settings_are) holds)

  -- its job was closed
  module _ (k : Parts) (more : List Deed) (es : List Event) (d : HasDone flow settings (taken h places room) c ended.status k more (after w waiting) es)
      (follows_closing : Follows act w (waiting ∷ d.closing)) where
    abbrev notes_are : Result (Unit {0}) Fault → Type 0
    notes_are answer = HasNotedEnd flow d.job d.how answer (taken h places room) d.noted

    -- what is kept once the plan was told
    abbrev told : Parts
    told = heeded d.outcome (record d.noted { live = d.new })

    abbrev x : Closing
    x =
        record {
          act = act;
          rules = rules;
          entry = entry;
          h = h;
          s = s;
          w = w;
          before = before;
          deeds = deeds;
          c = c;
          places = places;
          ended = ended;
          left = left;
          closing = d.closing;
          how = d.how;
          job = d.job;
          at = at;
          reads = by.reads;
          owners = owners;
          unbroken = unbroken;
          put = put;
          none_left = left_then;
          number = number;
          is = d.is;
          closed = d.closed;
          follows = follows_closing;
        }

    noted_well : notes_are (Ok tt) → IsNotedAt x d.noted
    noted_well notes =
        record {
          live = notes.live;
          next = notes.next;
          halt = notes.halt;
          places = notes.places;
          room = rules_holds d.noted.room notes.room;
          counted = λ none. subst (λ f. d.noted.tally ≡ counted_end f d.job d.how h.tally) (sym by.flow_is) (notes.counted refl);
        }

    -- ### Some fault has come

    module _ (follows : Follows act w ((waiting ∷ d.closing) ++ d.tending)) (came : told.halt.fault ≢ None) where
      -- no fault came as the end was put and counted
      done_well : notes_are (Ok tt) → HasGoneTo rules entry told s w before ((waiting ∷ d.closing) ++ d.tending) deeds (told_of x)
      done_well notes =
          one_step rules entry told s w before ((waiting ∷ d.closing) ++ d.tending) deeds (told_of x)
          (tended_leads l x d.noted (noted_well notes) flow settings by d.new d.outcome d.tending d.tended came follows)

      -- a line is missing
      done_ill : (f : Fault) → notes_are (Err f) → HasGoneTo rules entry told s w before ((waiting ∷ d.closing) ++ d.tending) deeds (told_of x)
      done_ill f notes =
          let halts : HasLed rules entry (faulted f h) s w before [] deeds [] =
          halt_leads rules entry h s w before deeds [] f at (inr notes.lost) (line_fault f notes.lost) refl (λ broken. refl) at.home at.ours in
          let y : Closing = record {
            act = act;
            rules = rules;
            entry = entry;
            h = faulted f h;
            s = halts.stand;
            w = w;
            before = before ++ [];
            deeds = deeds ++ [];
            c = c;
            places = places;
            ended = ended;
            left = left;
            closing = d.closing;
            how = d.how;
            job = d.job;
            at = halts.at;
            reads = by.reads;
            owners = owners;
            unbroken = sym halts.at.waits ∙ (ap (λ b. h.halt.only_waits || b) (line_fault f notes.lost) ∙ (or-false h.halt.only_waits ∙ whole));
            put = put;
            none_left = λ none. absurd (faulted_some f h (halts.at.halted ∙ none));
            number = number;
            is = d.is;
            closed = d.closed;
            follows = follows_closing;
          } in
          let noted : IsNotedAt y d.noted = record {
            live = notes.live;
            next = notes.next;
            halt = notes.halt;
            places = notes.places;
            room = rules_holds d.noted.room notes.room;
            counted = λ none. absurd (faulted_some f h (halts.at.halted ∙ none));
          } in
          goes_on_from rules entry (faulted f h) told s w before [] ((waiting ∷ d.closing) ++ d.tending) deeds [] (told_of x) halts
          (one_step rules entry told halts.stand w (before ++ []) ((waiting ∷ d.closing) ++ d.tending) (deeds ++ []) (told_of x)
          (tended_leads l y d.noted noted flow settings by d.new d.outcome d.tending d.tended came follows))
        where
          line_fault : (g : Fault) → IsLineFault g → is_device g ≡ false
          line_fault g (inl e) = ap is_device e
          line_fault g (inr e) = ap is_device e

      done_so : (a : Result (Unit {0}) Fault) → notes_are a → HasGoneTo rules entry told s w before ((waiting ∷ d.closing) ++ d.tending) deeds (told_of x)
      done_so (Ok u) notes = done_well notes
      done_so (Err f) notes = done_ill f notes

    done_leads : Follows act w (waiting ∷ es) → k.halt.fault ≢ None → HasGoneTo rules entry k s w before (waiting ∷ es) deeds more
    done_leads follows came =
        subst (λ fs. HasGoneTo rules entry k s w before (waiting ∷ fs) deeds more) (sym d.events)
        (subst (λ ds. HasGoneTo rules entry k s w before ((waiting ∷ d.closing) ++ d.tending) deeds ds) (sym d.deeds_are)
        (subst (λ (m : Parts). HasGoneTo rules entry m s w before ((waiting ∷ d.closing) ++ d.tending) deeds (told_of x)) (sym d.kept)
        (done_so (subst (λ fs. Follows act w (waiting ∷ fs)) d.events follows) (λ none. came (ap (λ (m : Parts). m.halt.fault) d.kept ∙ none)) d.answer d.notes)))

    -- ### No fault has come

    module _ (none : k.halt.fault ≡ None) (looks : List Event) (g : Parts) (grown : HasGrownOn flow settings (run (after w waiting) es) k g looks)
        (follows : Follows act w (waiting ∷ (es ++ looks))) where
      none_told : told.halt.fault ≡ None
      none_told = ap (λ (m : Parts). m.halt.fault) (sym d.kept) ∙ none

      grown_then : HasGrownOn flow settings (run (closed_world x) d.tending) told g looks
      grown_then =
          subst (λ (m : Parts). HasGrownOn flow settings (run (closed_world x) d.tending) m g looks) d.kept
          (subst (λ v. HasGrownOn flow settings v k g looks) (ap (run (after w waiting)) d.events ∙ run_more (after w waiting) d.closing d.tending) grown)

      grown_well : notes_are (Ok tt) → HasGoneTo rules entry g s w before ((waiting ∷ (d.closing ++ d.tending)) ++ looks) deeds (told_of x)
      grown_well notes =
          one_step rules entry g s w before ((waiting ∷ (d.closing ++ d.tending)) ++ looks) deeds (told_of x)
          (tended_grown l x d.noted (noted_well notes) flow settings by d.new d.outcome d.tending looks g d.tended none_told grown_then
          (subst (λ fs. Follows act w (waiting ∷ (fs ++ looks))) d.events follows))

      grown_so : (a : Result (Unit {0}) Fault) → notes_are a → HasGoneTo rules entry g s w before ((waiting ∷ (d.closing ++ d.tending)) ++ looks) deeds (told_of x)
      grown_so (Ok u) notes = grown_well notes
      grown_so (Err f) notes =
          absurd (faulted_some f h (ap (λ h. h.fault) (sym notes.halt) ∙ none_before d.outcome (record d.noted { live = d.new }) none_told))

      grown_done : HasGoneTo rules entry g s w before (waiting ∷ (es ++ looks)) deeds more
      grown_done =
          subst (λ fs. HasGoneTo rules entry g s w before (waiting ∷ (fs ++ looks)) deeds more) (sym d.events)
          (subst (λ ds. HasGoneTo rules entry g s w before ((waiting ∷ (d.closing ++ d.tending)) ++ looks) deeds ds) (sym d.deeds_are) (grown_so d.answer d.notes))

  -- the part of the calls with which the job was closed
  closing_follows :
      (k : Parts) (more : List Deed) (es looks : List Event) (d : HasDone flow settings (taken h places room) c ended.status k more (after w waiting) es) →
      Follows act w (waiting ∷ (es ++ looks)) → Follows act w (waiting ∷ d.closing)
  closing_follows k more es looks d follows =
      (followed act w (waiting ∷ d.closing) (d.tending ++ looks)
      (subst (Follows act w) (append_assoc (waiting ∷ d.closing) d.tending looks) (subst (λ fs. Follows act w (waiting ∷ (fs ++ looks))) d.events follows))).0

  its_job_is : {A : Type 0} → slice_get h.live.base.jobs.jobs c.job ≡ None → A
  its_job_is none = absurd (never (at.theirs c was_there).job (sym (at.theirs c was_there).is ∙ none))
    where
      never : (j : Job) → Some j ≡ None → ⊥
      never j e = cc

  any_leads : (es : List Event) (k : Parts) (more : List Deed) → HasClosedFor flow settings (taken h places room) c ended.status (after w waiting) es k more →
      k.halt.fault ≢ None → Follows act w (waiting ∷ es) → HasGoneTo rules entry k s w before (waiting ∷ es) deeds more
  any_leads es k more (IsLeft settled) came follows = left_leads es settled follows
  any_leads es k more (IsCut settled) came follows = cut_leads es settled follows
  any_leads es k more (IsDone k1 more1 d) came follows =
      done_leads k more es d (closing_follows k more es [] d (subst (λ fs. Follows act w (waiting ∷ fs)) (sym (append-nil es)) follows)) follows came
  any_leads es k more (IsNone k1 more1 none quiet) came follows = its_job_is none

  any_grown :
      (es looks : List Event) (m k : Parts) (more : List Deed) → HasClosedFor flow settings (taken h places room) c ended.status (after w waiting) es m more →
      m.halt.fault ≡ None → HasGrownOn flow settings (run (after w waiting) es) m k looks → Follows act w (waiting ∷ (es ++ looks)) →
      HasGoneTo rules entry k s w before (waiting ∷ (es ++ looks)) deeds more
  any_grown es looks m k more (IsLeft settled) none grown follows = absurd (faulted_some fault.OutOfMemory (taken h places room) none)
  any_grown es looks m k more (IsCut settled) none grown follows = absurd (faulted_some fault.Device (taken h places room) none)
  any_grown es looks m k more (IsDone k1 more1 d) none grown follows =
      grown_done m more es d (closing_follows m more es looks d follows) none looks k grown follows
  any_grown es looks m k more (IsNone k1 more1 unknown quiet) none grown follows = its_job_is unknown

pub closed_leads :
    Laws → (act : Act) (flow : Flow) (settings : Settings) (h : Parts) (c : Child) (places : List (Option Child)) (room : Room) → ClosedLeads act flow settings h c places room
closed_leads l act flow settings h c places room ended left w es k deeds whole put holds none_left number owners closed came follows rules entry s before deeds0 by at =
    any_leads l act flow settings h c places room ended left w whole put holds none_left number owners rules entry s before deeds0 by at es k deeds closed came follows

pub grown_on :
    Laws → (act : Act) (flow : Flow) (settings : Settings) (h : Parts) (c : Child) (places : List (Option Child)) (room : Room) → GrownLeads act flow settings h c places room
grown_on l act flow settings h c places room ended left w es looks m k deeds whole put holds none_left number owners closed none grown follows rules entry s before deeds0 by at =
    any_grown l act flow settings h c places room ended left w whole put holds none_left number owners rules entry s before deeds0 by at es looks m k deeds closed none grown follows

pub waited_leads :
    (act : Act) (flow : Flow) (settings : Settings) (h : Parts) (c : Child) (places : List (Option Child)) (room : Room) → WaitedLeads act flow settings h c places room
waited_leads act flow settings h c places room ended left w only put number follows rules entry s before deeds by at =
    let came : h.halt.fault ≢ None = λ none. at.faulted (sym at.waits ∙ only) (sym at.halted ∙ none) in
    one_step rules entry (taken h places room) s w before (wait_event ended left ∷ []) deeds []
    (led_with rules entry (record h { places = places }) s w before (wait_event ended left ∷ []) deeds [] room came
    (wait_leads rules entry h s w before deeds places c ended left at only put number (home_stays act entry w (wait_event ended left ∷ []) follows at.home)))
