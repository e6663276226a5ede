-- A run that opened.
use Rattle.std.proofs.Common.{◌≡◌, ◌⊎◌, inl, inr, Bool, true, false, ◌||◌, ℕ, zero, List, [], ◌∷◌, ◌++◌, map, arith, refl, sym, ap, subst, ◌∙◌, nat_eq, Option, Some, None, Result, Ok, true≢false}
use Rattle.std.specs.Prelude.{Contains, is_none, is_ok}
use Rattle.std.specs.List.{IsDistinct, list_all}
use Rattle.std.proofs.lemmas.Option.{none-some}
use Rattle.smk_world.specs.declared.event.Event.{Event}
use Rattle.smk_world.specs.World.{World, run}
use Rattle.smk_world.specs.Devices.{Device, HasEnded, IsSoundDevice, Sunk}
use Rattle.smk_world.specs.Runs.{Follows}
use Rattle.smk_world.specs.Trees.{Act, IsIn}
use Rattle.smk_world.proofs.Runs.{follows_append, run_append}
use Rattle.smk_flow.specs.Flows.{Flow}
use Rattle.smk_pick.specs.declared.settings.Settings.{Settings}
use Rattle.smk_pick.specs.Shares.{Holds}
use Rattle.smk_report.specs.Lines.{Text}
use Rattle.smk_report.specs.declared.fault.Fault.{Fault}
use Rattle.smk_report.specs.declared.fault.Fault.TheVariants as fault
use Rattle.smk_job.specs.Jobs.{Underway}
use Rattle.smk_run.proofs.Honest.{given_then}
use Rattle.smk_drive.specs.Moments.{Rules}
use Rattle.smk_drive_step.specs.declared.children.Child.{Child}
use Rattle.smk_drive_step.specs.Crews.{goings}
use Rattle.smk_drive_course.specs.declared.ending.End.{End}
use Rattle.smk_drive_course.specs.Driven.{HasDriven, IsAnswer, IsRun}
use Rattle.smk_drive_course.specs.Driven as driven
use Rattle.smk_drive_course.specs.Reports.{IsReport}
use Rattle.smk_drive_course.specs.Stands.{GoesOn, NoneLeft, Stand, first_stand}
use Rattle.smk_drive_first.specs.Opening.{AreRules}
use Rattle.smk_laws_turns.specs.Hubs.{IsAt, Parts, asks_in, plan_of}
use Rattle.smk_laws_turns.proofs.Crew.{crew_idle}
use Rattle.smk_drive_hub.specs.Turned.{AreSeated, HasFailedWait, IsSteady, IsToldSoFar, LeadOn, TellsOn, numbers_in}
use Rattle.smk_laws_begins.specs.Ended.{EndsWell}
use Rattle.smk_laws_begins.specs.Opened.{OpenedIsAt}
use Rattle.smk_laws_begins.specs.Gone.{HasGone}
use Rattle.smk_laws_begins.specs.Whole.{Faulted, HasBegunRun, HasConcluded, HasEntered, IsClosing, IsConclusion, IsNew, IsThrough, Told, Unput, Untold, WholeRun}
use Rattle.smk_laws_begins.proofs.Faults.{is_the_device, loses_no_device}
use Rattle.smk_laws_begins.proofs.Going.{cause_then, in_back, reported_both}
use Rattle.smk_laws_begins.proofs.WholeText.{whole_text}
use Rattle.smk_laws_begins.proofs.Unopened.{begun_given, childless, none_owned}

-- ## Free places

pub none_going : (places : List (Option Child)) → list_all is_none places ≡ true → goings places ≡ []
none_going [] free = refl
none_going (None ∷ ps) free = none_going ps free
none_going (Some c ∷ ps) free = absurd (true≢false (sym free))

none_asked : (places : List (Option Child)) → list_all is_none places ≡ true → asks_in places ≡ []
none_asked [] free = refl
none_asked (None ∷ ps) free = none_asked ps free
none_asked (Some c ∷ ps) free = absurd (true≢false (sym free))

none_in : (places : List (Option Child)) (c : Child) → list_all is_none places ≡ true → IsIn places (Some c) → ⊥
none_in [] c free i = i
none_in (None ∷ ps) c free (inl e) = none-some c (sym e)
none_in (None ∷ ps) c free (inr i) = none_in ps c free i
none_in (Some d ∷ ps) c free i = true≢false (sym free)

no_number : (n : ℕ) → Contains [] n → ⊥
no_number n (k, lt, is) = omega (arith, lt)

first_number : (n : ℕ) (ns : List ℕ) → Contains (n ∷ ns) n
first_number n ns = (zero, omega arith, refl)

none_running : (ns : List ℕ) → ((n : ℕ) → Contains ns n → ⊥) → ns ≡ []
none_running [] none = refl
none_running (n ∷ ns) none = absurd (none n (first_number n ns))

-- ## At the start

pub start_is_steady : (flow : Flow) (settings : Settings) (h : Parts) → IsNew settings h → IsSteady flow settings h
start_is_steady flow settings h new =
    record {
      room = subst (Holds settings.cores settings.bounds h.room) (sym (none_asked h.places new.start.places)) new.start.room;
      halt = record {
        some = λ is e. true≢false (sym is ∙ new.start.unbroken);
        device = λ is. absurd (none-some fault.Device (sym new.start.unhalted ∙ is));
      };
      lines = λ c i j is. absurd (none_in h.places c new.start.places i);
      silent = λ is. absurd (true≢false (sym new.start.telling ∙ is));
    }

pub start_is_seated : (settings : Settings) (h : Parts) (running : List ℕ) → IsNew settings h → running ≡ [] → AreSeated h.places running
unfolding IsDistinct
start_is_seated settings h running new idle =
    let none : numbers_in h.places ≡ [] = ap (map (λ (g : Underway). g.number)) (none_going h.places new.start.places) in
    record {
      seated = λ n i. absurd (no_number n (subst (λ ns. Contains ns n) idle i));
      runs = λ n i. absurd (no_number n (subst (λ ns. Contains ns n) none i));
      distinct = subst (IsDistinct nat_eq) (sym none) tt;
    }

-- ## At the end

idle_device : (places : List (Option Child)) (running : List ℕ) → AreSeated places running → list_all is_none places ≡ true → running ≡ []
idle_device places running seated free =
    none_running running
    (λ n i. no_number n (subst (λ ns. Contains ns n) (ap (map (λ (g : Underway). g.number)) (none_going places free)) (seated.seated n i)))

either_flag : {T : Type 0} (b : Bool) → (b ≡ false → T) → (b ≡ true → T) → T
either_flag true no_case yes_case = yes_case refl
either_flag false no_case yes_case = no_case refl

module _
    (act : Act) (flow : Flow) (settings : Settings) (h k : Parts) (unwaited : Bool) (result : Result End Fault) (a b c : Device) (p q r : Sunk)
    (opened_at : OpenedIsAt) (ends_well : EndsWell) (sound : IsSoundDevice a) (idle : a.running ≡ [])
    (begun : HasBegunRun act flow settings (Ok h) a b) (gone : HasGone act flow settings h k unwaited b c p q)
    (through : IsThrough flow settings k unwaited c)
    (ended : HasConcluded settings.targets k result q r) (rules : Rules) (by : AreRules flow settings rules)
  where
    steady : IsSteady flow settings k
    steady = gone.steady (start_is_steady flow settings h begun.is_new)

    -- where a call of the device has failed children are only waited for
    only_waits : k.halt.only_waits ≡ gone.failure
    only_waits = gone.waits ∙ ap (λ f. f || gone.failure) begun.is_new.start.unbroken

    unhalted_quiet : k.halt.fault ≡ None → gone.failure ≡ false
    unhalted_quiet none = either_flag gone.failure (λ quiet. quiet) (λ failed. absurd (steady.halt.some (only_waits ∙ failed) none))

    unhalted_waited : k.halt.fault ≡ None → unwaited ≡ false
    unhalted_waited none =
        either_flag unwaited (λ e. e) (λ e. absurd (true≢false (sym (gone.fails e) ∙ unhalted_quiet none)))

    unhalted_heard : k.halt.fault ≡ None → gone.lost ≡ false
    unhalted_heard none = either_flag gone.lost (λ e. e) (λ e. absurd (steady.silent (gone.silent (inr e)) none))

    -- ## What it tells of faults

    tells : (told : Option End) (x : Result End Fault) → IsConclusion k told x → driven.device_failed x ≡ true → gone.failure ≡ true
    tells told x (Faulted f came) is =
        sym only_waits ∙ steady.halt.device (came ∙ ap Some (is_the_device f is))
    tells told x (Untold f none lose) is = absurd (true≢false (sym is ∙ loses_no_device f lose))
    tells told x (Unput end f none ends made lose) is = absurd (true≢false (sym is ∙ loses_no_device f lose))
    tells told x (Told end none ends made) is = absurd (true≢false (sym is))

    unhalted_ok : (told : Option End) (x : Result End Fault) → IsConclusion k told x → is_ok x ≡ true → k.halt.fault ≡ None
    unhalted_ok told x (Faulted f came) is = absurd (true≢false (sym is))
    unhalted_ok told x (Untold f none lose) is = absurd (true≢false (sym is))
    unhalted_ok told x (Unput end f none ends made lose) is = absurd (true≢false (sym is))
    unhalted_ok told x (Told end none ends made) is = none

    loses : (k.halt.fault ≡ Some fault.Output) ⊎ (ended.lost ≡ true) → (gone.lost || ended.lost) ≡ true
    loses (inl came) = was (gone.outputs came)
      where
        was : (h.halt.fault ≡ Some fault.Output) ⊎ (gone.lost ≡ true) → (gone.lost || ended.lost) ≡ true
        was (inl e) = absurd (none-some fault.Output (sym begun.is_new.start.unhalted ∙ e))
        was (inr e) = ap (λ f. f || ended.lost) e
    loses (inr e) = either_flag gone.lost (λ f. ap (λ x. x || ended.lost) f ∙ e) (λ f. ap (λ x. x || ended.lost) f)

    -- ## What it did

    answered :
        (entry w : World) (before : List Event) (s : Stand) (told : Option End) (x : Result End Fault) →
        IsConclusion k told x →
        IsAt rules entry k s w before gone.deeds → (s.halted ≡ None → NoneLeft rules s w before) → IsAnswer rules w before gone.deeds s told x
    answered entry w before s told x (Faulted f came) at left = inl (sym at.halted ∙ came)
    answered entry w before s told x (Untold f none lose) at left = inr (sym at.halted ∙ none, lose)
    answered entry w before s told x (Unput end f none ends made lose) at left =
        let unhalted = sym at.halted ∙ none in
        (lose, ends_well rules entry k s w before gone.deeds end at unhalted (through.idle (unhalted_waited none)) (left unhalted) ends made)
    answered entry w before s told x (Told end none ends made) at left =
        let unhalted = sym at.halted ∙ none in
        (refl, ends_well rules entry k s w before gone.deeds end at unhalted (through.idle (unhalted_waited none)) (left unhalted) ends made)

    run_of :
        (entry : World) (opening rest : List Event) →
        c.world ≡ Some (run (run entry opening) rest) →
        a.world ≡ Some entry →
        Follows act entry opening →
        HasEntered rules settings entry opening h →
        LeadOn flow settings h k gone.deeds (run entry opening) rest →
        (unwaited ≡ true → HasFailedWait rest) → IsRun rules ended.told result gone.deeds entry (opening ++ rest)
    run_of entry opening rest is was follows entered leads failed =
        let o = entered.found in
        let start : Stand = first_stand (Some (plan_of o.live)) in
        let at0 =
        opened_at act flow settings rules entry opening o h (sound.formed entry was) (sound.tree entry was) (childless a entry sound idle was) by
        entered.opens follows entered.is entered.sources entered.start in
        let to = leads rules entry start opening [] by at0 in
        let here : IsAt rules entry k to.stand (run entry (opening ++ rest)) (opening ++ rest) gone.deeds =
        subst (λ v. IsAt rules entry k to.stand v (opening ++ rest) gone.deeds) (sym (run_append entry opening rest)) to.at in
        let is_now : c.world ≡ Some (run entry (opening ++ rest)) = is ∙ ap Some (sym (run_append entry opening rest)) in
        record {
          opening = opening;
          rest = rest;
          opened = Ok tt;
          plan = Some (plan_of o.live);
          start = start;
          last = to.stand;
          events = refl;
          opens = entered.opens;
          planned = entered.is.clear.planned;
          goes_by = GoesOn entered.is.clear;
          steps = to.steps;
          waited =
              either_flag unwaited (λ e. inl (crew_idle k.places to.stand.runs here.crew (through.idle e)))
              (λ e. let f = failed e in inr (f.0, in_back opening rest f.0 f.1, f.2));
          answer =
              answered entry (run entry (opening ++ rest)) (opening ++ rest) to.stand ended.told result ended.concludes here
              (λ unhalted. through.none_left (here.halted ∙ unhalted) (run entry (opening ++ rest)) is_now rules entry to.stand (opening ++ rest) gone.deeds by
              here unhalted);
        }

    ran : HasEnded act (IsRun rules ended.told result gone.deeds) a c gone.failure
    ran =
        record {
          did = λ w2 is2.
              let g = gone.led w2 is2 in
              let s = begun.acted.did g.0 g.1 in
              let entry = s.0 in
              let opening = s.2.0 in
              let rest = g.2.0 in
              let at : g.0 ≡ run entry opening = s.2.3 in
              let follows : Follows act (run entry opening) rest = subst (λ w. Follows act w rest) at g.2.1 in
              let leads : LeadOn flow settings h k gone.deeds (run entry opening) rest =
              subst (λ w. LeadOn flow settings h k gone.deeds w rest) at g.2.2.0 in
              let ends : w2 ≡ run (run entry opening) rest = g.2.3 ∙ ap (λ w. run w rest) at in (
                entry,
                s.1,
                (
                  opening ++ rest,
                  follows_append act entry opening rest s.2.1 follows,
                  run_of entry opening rest (is2 ∙ ap Some ends) s.1 s.2.1 (s.2.2 (none_owned a entry sound idle s.1) rules by) leads g.2.2.1,
                  ends ∙ sym (run_append entry opening rest),
                ),
              );
          stays = λ quiet some. gone.stays quiet (begun.acted.stays refl some);
          cause = cause_then a.faults b.faults c.faults false gone.failure begun.acted.cause gone.cause;
          idle = λ quiet.
              let waited : unwaited ≡ false = either_flag unwaited (λ e. e) (λ e. absurd (true≢false (sym (gone.fails e) ∙ quiet))) in
              idle_device k.places c.running
              (gone.seats (start_is_seated settings h b.running begun.is_new (begun.acted.running ∙ idle))) (through.idle waited);
        }

    told_so : (s t : Text) → TellsOn flow h k gone.deeds s → IsClosing settings.targets ended.told result t → IsReport rules gone.deeds ended.told result (s ++ t)
    told_so s t on closing =
        whole_text rules k gone.deeds ended.told result s t ended.concludes
        (subst (λ f. IsToldSoFar f k gone.deeds s) (sym by.flow_is)
        (on [] [] (record { all = λ e. refl; front = λ e. absurd (true≢false (sym begun.is_new.start.telling ∙ e)) })))
        (subst (λ (x : Settings). IsClosing x.targets ended.told result t) (sym by.settings_are) closing)

    driven_so : HasDriven act rules result a c p r
    driven_so =
        record {
          deeds = gone.deeds;
          told = ended.told;
          failure = gone.failure;
          tells = tells ended.told result ended.concludes;
          quiet = λ is. unhalted_quiet (unhalted_ok ended.told result ended.concludes is);
          ran = ran;
          given =
              given_then act a b c begun.acted.cause.later gone.cause.later (begun_given act flow settings (Ok h) a b rules sound idle begun by) gone.given;
          lost = gone.lost || ended.lost;
          loses = λ is. loses (ended.loses is);
          whole = λ is. ap (λ f. f || ended.lost) (unhalted_heard (unhalted_ok ended.told result ended.concludes is)) ∙ ended.whole is;
          text =
              reported_both (TellsOn flow h k gone.deeds) (IsClosing settings.targets ended.told result) (IsReport rules gone.deeds ended.told result) p q r gone.lost
              ended.lost told_so gone.text ended.text;
        }

pub whole_run : WholeRun
whole_run act flow settings h k unwaited result a b c p q r opened_at ends_well sound idle begun gone through ended rules by =
    driven_so act flow settings h k unwaited result a b c p q r opened_at ends_well sound idle begun gone through ended rules by
