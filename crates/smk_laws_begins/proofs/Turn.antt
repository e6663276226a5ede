-- What the turn did in which the job that is next was to begin.
use Rattle.std.proofs.Common.{◌≡◌, ℕ, Bool, true, false, ◌||◌, List, [], ◌∷◌, refl, sym, ap, subst, ◌∙◌, inl, inr, arith, Option, Some, None, Result, Ok, Err, true≢false}
use Rattle.std.specs.Prelude.{is_ok}
use Rattle.std.proofs.lemmas.Option.{same_Some}
use Rattle.smk_world.specs.declared.event.Event.{Event}
use Rattle.smk_world.specs.World.{World}
use Rattle.smk_world.specs.Calls.{Rose}
use Rattle.smk_world.specs.Devices.{Device}
use Rattle.smk_world.specs.Runs.{Did, Follows}
use Rattle.smk_world.specs.Trees.{Act}
use Rattle.smk_record.specs.declared.record.Stamp.{Stamp}
use Rattle.smk_flow.specs.declared.job.Job.{Job}
use Rattle.smk_flow.specs.Flows.{Flow, rule_name}
use Rattle.smk_pick.specs.declared.room.Ask.{Ask}
use Rattle.smk_pick.specs.declared.settings.Settings.{Settings}
use Rattle.smk_report.specs.Lines.{Text, done_line, start_line}
use Rattle.smk_report.specs.declared.fault.Fault.{Fault}
use Rattle.smk_report.specs.declared.fault.Fault.TheVariants as fault
use Rattle.smk_job.specs.Jobs.{Underway, begin_failed}
use Rattle.smk_job.specs.declared.fault.BeginFault.{BeginFault}
use Rattle.smk_job.specs.declared.fault.BeginFault.TheVariants.{Device as NoDevice, OutOfMemory, TooLong}
use Rattle.smk_run.specs.Runs.{is_output}
use Rattle.smk_run.specs.Statuses.{AreGiven, HasGiven}
use Rattle.smk_run.specs.declared.tally.Tally.{Tally}
use Rattle.smk_run.proofs.Ends.{did_as}
use Rattle.smk_run.proofs.Honest.{given_none, quiet_given}
use Rattle.smk_run.proofs.Texts.{reported_as, reported_nothing}
use Rattle.smk_drive.specs.Reports.{named_job}
use Rattle.smk_drive_step.specs.Beginning.{HasTakenUp}
use Rattle.smk_drive_step.specs.Crews.{is_device, or_later}
use Rattle.smk_drive_step.specs.Telling.{IsPutIf}
use Rattle.smk_drive_course.specs.Steps.{Started}
use Rattle.smk_laws_turns.specs.Hubs.{Parts}
use Rattle.smk_laws_turns.specs.Turning.{faulted}
use Rattle.smk_laws_turns.proofs.FolderBegun.{begin_differs}
use Rattle.smk_drive_hub.specs.Turned.{AreSeated, HasFailedWait, IsBarelyMore, LeadOn, TellsOn}
use Rattle.smk_laws_begins.specs.Fitting.{IsUnfit}
use Rattle.smk_laws_begins.specs.Noting.{IsBeginFault, child_of}
use Rattle.smk_laws_begins.specs.Turns.{BegunTurns, UnbegunTurns, UnfitTurns}
use Rattle.smk_laws_begins.proofs.Leading.{begun_leads_on, unbegun_leads_on, unfit_leads_on}
use Rattle.smk_laws_begins.proofs.Quiet.{taken_up_quiet}
use Rattle.smk_laws_begins.proofs.Seats.{seated_more}
use Rattle.smk_laws_begins.proofs.Steady.{output_now, silent_now, steady_by, steady_now, waits_same}
use Rattle.smk_laws_begins.proofs.Telling.{tells_halt, tells_start}

never : {A : Type 0} → false ≡ true → A
never e = absurd (true≢false (sym e))

same_count : (t : Tally) → IsBarelyMore t t
same_count t = record { started = omega arith; done = omega arith; failed = omega arith }

later_is : (o : Option Fault) (f : Fault) → o ≡ None → Some (or_later o f) ≡ Some f
later_is None f e = refl
later_is (Some g) f e = cc

-- ## It doesn't begin

-- such a fault is neither the device's nor the sink's
unfit_fault : (h : Parts) (number : ℕ) (f : Fault) → IsUnfit h number f → (is_device f ≡ false) × (f ≡ fault.Output → ⊥)
unfit_fault h number f (inl e) = (ap is_device e, λ out. other (sym e ∙ out))
  where
    other : fault.OutOfMemory ≡ fault.Output → ⊥
    other e = cc
unfit_fault h number f (inr u) = (ap is_device u.0, λ out. other (sym u.0 ∙ out))
  where
    other : fault.Serials ≡ fault.Output → ⊥
    other e = cc

pub unfit_turns : (act : Act) (flow : Flow) (settings : Settings) (h : Parts) (number : ℕ) → UnfitTurns act flow settings h number
unfit_turns act flow settings h number f d o may live unfit =
    let kind = unfit_fault h number f unfit in
    record {
      deeds = [];
      failure = false;
      lost = false;
      led = λ w told. (w, told, ([], tt, (unfit_leads_on flow settings h number act f w may unfit, never), refl));
      given = given_none act d;
      stays = λ quiet some. some;
      cause = record { later = omega arith; rose = never };
      fails = never;
      waits = ap (λ b. h.halt.only_waits || b) kind.0;
      steady = steady_by flow settings h f may.unhalted;
      alive = live;
      seats = λ seats. seats;
      counts = same_count h.tally;
      silent = λ e. elim e [ inl silent ↦ silent | inr lost ↦ never lost ];
      outputs = λ e. absurd (kind.1 (same_Some f fault.Output (sym (later_is h.halt.fault f may.unhalted) ∙ e)));
      text = reported_nothing (TellsOn flow h (faulted f h) []) o (tells_halt flow h f may.unhalted);
    }

-- the device failed just where that is the fault
begin_kind : (rule : Text) (why : BeginFault) (f : Fault) → IsBeginFault rule why f → (is_device f ≡ begin_failed {T = Underway} (Err why)) × (f ≡ fault.Output → ⊥)
begin_kind rule (TooLong bytes) f (inl e) = (ap is_device e, λ out. other (sym e ∙ out))
  where
    other : fault.TooLong rule bytes ≡ fault.Output → ⊥
    other e = cc
begin_kind rule (TooLong bytes) f (inr e) = (ap is_device e, λ out. other (sym e ∙ out))
  where
    other : fault.OutOfMemory ≡ fault.Output → ⊥
    other e = cc
begin_kind rule NoDevice f e = (ap is_device e, λ out. other (sym e ∙ out))
  where
    other : fault.Device ≡ fault.Output → ⊥
    other e = cc
begin_kind rule OutOfMemory f e = (ap is_device e, λ out. other (sym e ∙ out))
  where
    other : fault.OutOfMemory ≡ fault.Output → ⊥
    other e = cc

-- with the world before, and what follows from it
did_on :
    (act : Act) (P Q : World → List Event → Type 0) (a b : Option World) → Did act a b P →
    ((w : World) (es : List Event) → a ≡ Some w → Follows act w es → P w es → Q w es) → Did act a b Q
did_on act P Q a b h more = λ w1 e. let d = h w1 e in (d.0, d.1, (d.2.0, d.2.1, more d.0 d.2.0 d.1 d.2.1 d.2.2, d.2.3))

module _ (act : Act) (flow : Flow) (settings : Settings) (h : Parts) (number : ℕ) (j : Job) (known : List Stamp) (made : ℕ) (draws : Bool) (command : Text) (ask : Ask) (old new : Device) where
  given_up : (result : Result Underway BeginFault) → Did act old.world new.world (HasTakenUp j known made command result) → HasGiven act old new
  given_up result did =
      did_as act (HasTakenUp j known made command result) (AreGiven act (Rose old.faults new.faults)) old.world new.world did
      (λ w es up. quiet_given act (Rose old.faults new.faults) w es (taken_up_quiet j known made command result w es up))

  pub unbegun_turns : UnbegunTurns act flow settings h number j known made draws command ask old new
  unbegun_turns why f o up is =
      let kind = begin_kind (rule_name flow j.rule) why f is in
      record {
        deeds = [];
        failure = begin_failed {T = Underway} (Err why);
        lost = false;
        led =
            did_on act (HasTakenUp j known made command (Err why)) (λ w es. LeadOn flow settings h (faulted f h) [] w es × (false ≡ true → HasFailedWait es)) old.world new.world
            up.did.did (λ w es told follows taken.
            (unbegun_leads_on flow settings h number act j known made draws command ask why f w es up.may up.fit up.logged taken is follows, never));
        given = given_up (Err why) up.did.did;
        stays = up.did.stays;
        cause = up.did.cause;
        fails = never;
        waits = ap (λ b. h.halt.only_waits || b) kind.0;
        steady = steady_by flow settings h f up.may.unhalted;
        alive = up.live;
        seats = λ seats. subst (AreSeated h.places) (sym up.did.running) seats;
        counts = same_count h.tally;
        silent = λ e. elim e [ inl silent ↦ silent | inr lost ↦ never lost ];
        outputs = λ e. absurd (kind.1 (same_Some f fault.Output (sym (later_is h.halt.fault f up.may.unhalted) ∙ e)));
        text = reported_nothing (TellsOn flow h (faulted f h) []) o (tells_halt flow h f up.may.unhalted);
      }

  -- ## It begins

  pub begun_turns : BegunTurns act flow settings h number j known made draws command ask old new
  begun_turns going k told put o p up sound new_number noted text =
      let child = child_of going number ask (done_line (named_job flow j)) in
      let none = up.may.unhalted in
      record {
        deeds = Started j ∷ [];
        failure = false;
        lost = is_output put;
        led =
            did_on act (HasTakenUp j known made command (Ok going)) (λ w es. LeadOn flow settings h k (Started j ∷ []) w es × (false ≡ true → HasFailedWait es)) old.world new.world
            up.did.did (λ w es told_so follows taken. (
              begun_leads_on begin_differs flow settings h number act j known made draws command ask going child k told put w es up.may up.fit up.logged taken refl refl refl
                  noted (sound.owned w told_so) follows,
              never,
            ));
        given = given_up (Ok going) up.did.did;
        stays = up.did.stays;
        cause = up.did.cause;
        fails = never;
        waits = waits_same flow settings h k number draws child told put none noted j up.fit.is refl refl;
        steady = steady_now flow settings h k number draws child told put none noted j up.fit.is refl refl;
        alive = noted.plan.alive;
        seats = λ seats. subst (AreSeated k.places) (sym up.did.running) (seated_more h.places k.places old.running child noted.placed new_number seats);
        counts = subst (IsBarelyMore h.tally) (sym noted.counted) (record { started = omega arith; done = omega arith; failed = omega arith });
        silent = silent_now flow settings h k number draws child told put none noted j up.fit.is refl refl;
        outputs = output_now flow settings h k number draws child told put none noted j up.fit.is refl refl;
        text =
            reported_as (IsPutIf h.telling (is_ok put) (start_line (named_job flow j))) (TellsOn flow h k (Started j ∷ [])) o p (is_output put) (is_output put) refl
            (λ t. tells_start flow settings h k number draws child j none told put noted t) text;
      }
