-- What a sweep makes of what is kept.
use Rattle.std.proofs.Common.{◌≡◌, ◌≢◌, inl, inr, ℕ, ◌≤◌, ◌+◌, arith, Bool, true, false, ◌||◌, List, [], ◌∷◌, refl, sym, ap, subst, ◌∙◌, Some, None, Result, Ok, Err, append-nil}
use Rattle.std.proofs.Math.Bool.{or-false, or-true}
use Rattle.smk_world.specs.declared.event.Event.{Event}
use Rattle.smk_world.specs.Devices.{Device, HasActed, HasCarried, Sunk, WhereTold}
use Rattle.smk_world.specs.Requests.{HasDone, IsCutShort}
use Rattle.smk_world.specs.Trees.{Act, Each, Path}
use Rattle.smk_world.specs.World.{World}
use Rattle.smk_flow.specs.Flows.{Flow}
use Rattle.smk_pick.specs.declared.settings.Settings.{Settings}
use Rattle.smk_chain.specs.declared.jobs.Jobs.{Jobs}
use Rattle.std.specs.List.{slice_get}
use Rattle.smk_plan_live.specs.Live.{LivePlan}
use Rattle.smk_report.specs.declared.fault.Fault.{Fault}
use Rattle.smk_report.specs.declared.fault.Fault.TheVariants as fault
use Rattle.smk_run.specs.Reports.{HasReported}
use Rattle.smk_run.specs.Statuses.{HasGiven}
use Rattle.smk_run.proofs.Calls.{EachCall, cut_each, done_each}
use Rattle.smk_run.proofs.Honest.{given_then, quiet_given}
use Rattle.smk_run.proofs.Honest as honest
use Rattle.smk_drive_step.specs.Crews.{halted_by, is_device, or_later}
use Rattle.smk_drive_step.specs.declared.halt.Halt.{Halt}
use Rattle.smk_drive_course.specs.Reports.{lines_of}
use Rattle.smk_drive_course.specs.Steps.{MaySpend}
use Rattle.smk_laws_turns.specs.Hubs.{Parts}
use Rattle.smk_laws_turns.specs.Turning.{faulted}
use Rattle.smk_laws_begins.specs.Sweeping.{IsLaterPlan, with_live}
use Rattle.smk_drive_hub.specs.Keeping.{heeded}
use Rattle.smk_drive_hub.specs.Turned.{AreSeated, HasTurned, IsSoundHalt, TellsOn, WhereUnhalted}
use Rattle.smk_drive_begin.specs.declared.rounds.Round.{Round}
use Rattle.smk_drive_begin.specs.declared.rounds.Round.TheVariants.{Removed, Done, Halted, Broken}
use Rattle.smk_drive_begin.specs.Rounds.{Firm, HasSwept, IsConcluded, IsQuiet, Unfirm, WasBroken, answer_by, is_broken, settle_requests}
use Rattle.smk_drive_begin.proofs.Turned.{Late, Leads, broken_acted, firm_acted, unfirm_acted}

-- ## Statuses

quiet_settling : (paths : List Path) → Each honest.IsQuiet (settle_requests paths)
quiet_settling [] = tt
quiet_settling (p ∷ paths) = (tt, tt)

given_by :
    (act : Act) (P : World → List Event → Type 0) (a b : Device) (f : Bool) → ((w : World) (es : List Event) → P w es → EachCall honest.IsQuiet es) →
    HasActed act P a b f → HasGiven act a b
given_by act P a b f quiet acted = λ w1 e.
    let d = acted.did w1 e in (d.0, d.1, (d.2.0, d.2.1, quiet_given act _ d.0 d.2.0 (quiet d.0 d.2.0 d.2.2), d.2.3))

-- ## Faults and lines

-- what was answered tells whether a call failed, and is none of the sink
abbrev pub TellsOf : Result (Unit {0}) Fault → Bool → Type 0
TellsOf (Ok u) failure = failure ≡ false
TellsOf (Err f) failure = (is_device f ≡ failure) × (f ≢ fault.Output)

tells_round : (round : Round) → is_broken round ≡ false → IsQuiet round → TellsOf (answer_by round) false
tells_round Removed whole quiet = refl
tells_round Done whole quiet = refl
tells_round (Halted f) whole quiet = quiet
tells_round Broken whole quiet = absurd (go whole)
  where
    go : true ≡ false → ⊥
    go h = cc

tells_device : TellsOf (Err fault.Device) true
tells_device = (refl, go)
  where
    go : fault.Device ≡ fault.Output → ⊥
    go h = cc

some_same : (f g : Fault) → Some f ≡ Some g → f ≡ g
some_same f g h = cc

none_some : {A : Type 0} (f : Fault) → Some f ≡ None → A
none_some f h = absurd (go h)
  where
    go : Some f ≡ None → ⊥
    go e = cc

-- once this fault came, where none had come before
sound_then : (h : Halt) (f : Fault) → h.fault ≡ None → IsSoundHalt (halted_by f h)
sound_then h f none =
    record {
      some = λ waits gone. none_some (or_later h.fault f) gone;
      device = λ is.
          let same : f ≡ fault.Device = some_same f fault.Device (ap (λ o. Some (or_later o f)) (sym none) ∙ is) in
          ap (λ b. h.only_waits || b) (ap is_device same) ∙ or-true h.only_waits;
    }

module _ (flow : Flow) (h : Parts) (unhalted : h.halt.fault ≡ None) where
  -- nothing was put
  tells_nothing : (k : Parts) → k.telling ≡ h.telling → TellsOn flow h k [] []
  tells_nothing k same = λ deeds before told.
      record {
        all = λ telling. append-nil before ∙ told.all (sym same ∙ telling) ∙ ap (lines_of flow) (sym (append-nil deeds));
        front = λ silent. none_some _ (sym (told.front (sym same ∙ silent)).1 ∙ unhalted);
      }

  reports_nothing : (k : Parts) (out : Sunk) → k.telling ≡ h.telling → HasReported (TellsOn flow h k []) out out false
  reports_nothing k out same =
      record {
        told = λ now e. (now, e, ([], tells_nothing k same, sym (append-nil now)));
        stays = λ quiet some. some;
        cause = record { later = omega arith; rose = λ lost. absurd (go lost) };
        quiet = λ quiet. refl;
      }
    where
      go : false ≡ true → ⊥
      go e = cc

-- ## The turn

module _ (act : Act) (flow : Flow) (settings : Settings) (h : Parts) (unhalted : h.halt.fault ≡ None) (a c : Device) (out : Sunk) where
  false_true : {A : Type 0} → false ≡ true → A
  false_true h = absurd (go h)
    where
      go : false ≡ true → ⊥
      go e = cc

  at_most : (n : ℕ) → n ≤ n + 1
  at_most n = omega arith

  turned_by :
      (live : LivePlan) (answer : Result (Unit {0}) Fault) (failure : Bool) → IsLaterPlan h.live live → TellsOf answer failure →
      HasActed act (Leads act flow settings h unhalted (heeded answer (with_live live h))) a c failure → HasGiven act a c →
      HasTurned act flow settings h (heeded answer (with_live live h)) false a c out out
  turned_by live (Ok u) failure later quiet acted given =
      record {
        deeds = [];
        failure = failure;
        lost = false;
        led = λ w1 e. let d = acted.did w1 e in (d.0, d.1, (d.2.0, d.2.1, (d.2.2, λ unwaited. false_true unwaited), d.2.3));
        given = given;
        stays = acted.stays;
        cause = acted.cause;
        fails = λ unwaited. false_true unwaited;
        waits = sym (or-false h.halt.only_waits) ∙ ap (λ b. h.halt.only_waits || b) (sym quiet);
        steady = λ was.
            record {
              room = was.room;
              halt = was.halt;
              silent = was.silent;
              lines = λ c i j at. was.lines c i j (ap (λ (js : Jobs). slice_get js.jobs c.job) (sym later.jobs) ∙ at);
            };
        alive = later.alive;
        seats = λ seated. subst (AreSeated h.places) (sym acted.running) seated;
        counts = record { started = at_most h.tally.started; done = at_most h.tally.done; failed = at_most h.tally.failed };
        silent = λ why. elim why [ inl silent ↦ silent | inr lost ↦ false_true lost ];
        outputs = λ is. inl is;
        text = reports_nothing flow h unhalted (with_live live h) out refl;
      }
  turned_by live (Err f) failure later quiet acted given =
      record {
        deeds = [];
        failure = failure;
        lost = false;
        led = λ w1 e. let d = acted.did w1 e in (d.0, d.1, (d.2.0, d.2.1, (d.2.2, λ unwaited. false_true unwaited), d.2.3));
        given = given;
        stays = acted.stays;
        cause = acted.cause;
        fails = λ unwaited. false_true unwaited;
        waits = ap (λ b. h.halt.only_waits || b) quiet.0;
        steady = λ was.
            record {
              room = was.room;
              halt = sound_then h.halt f unhalted;
              silent = λ silent none. none_some (or_later h.halt.fault f) none;
              lines = λ c i j at. was.lines c i j (ap (λ (js : Jobs). slice_get js.jobs c.job) (sym later.jobs) ∙ at);
            };
        alive = later.alive;
        seats = λ seated. subst (AreSeated h.places) (sym acted.running) seated;
        counts = record { started = at_most h.tally.started; done = at_most h.tally.done; failed = at_most h.tally.failed };
        silent = λ why. elim why [ inl silent ↦ silent | inr lost ↦ false_true lost ];
        outputs = λ is. absurd (quiet.1 (some_same f fault.Output (ap (λ o. Some (or_later o f)) (sym unhalted) ∙ is)));
        text = reports_nothing flow h unhalted (with_live live (faulted f h)) out refl;
      }

  module _ (paths : List Path) (round : Round) (b : Device) where
    abbrev IsTurned : Parts → Result (Unit {0}) Fault → Type 0
    IsTurned k answer = HasTurned act flow settings h (heeded answer k) false a c out out

    firm_plan :
        (live : LivePlan) → HasSwept act flow settings h (with_live live h) paths round a b → WhereTold a (Late act flow settings h unhalted) →
        is_broken round ≡ false → HasCarried act (settle_requests paths) b c false → IsTurned (with_live live h) (answer_by round)
    firm_plan live swept late whole carried =
        turned_by live (answer_by round) false swept.later (tells_round round whole swept.quiet)
        (firm_acted act flow settings h unhalted live paths round a b swept.acted late c whole carried)
        (given_then act a b c swept.acted.cause.later carried.acted.cause.later swept.given
        (given_by act (λ w es. HasDone (settle_requests paths) es) b c false
        (λ w es done. done_each honest.IsQuiet (settle_requests paths) es (quiet_settling paths) done) carried.acted))

    unfirm_plan :
        (live : LivePlan) → HasSwept act flow settings h (with_live live h) paths round a b → WhereTold a (Late act flow settings h unhalted) →
        is_broken round ≡ false → HasCarried act (settle_requests paths) b c true → IsTurned (with_live live h) (Err fault.Device)
    unfirm_plan live swept late whole carried =
        turned_by live (Err fault.Device) true swept.later tells_device
        (unfirm_acted act flow settings h unhalted live paths round a b swept.acted late c whole carried)
        (given_then act a b c swept.acted.cause.later carried.acted.cause.later swept.given
        (given_by act (λ w es. IsCutShort (settle_requests paths) es) b c true
        (λ w es cut. cut_each honest.IsQuiet (settle_requests paths) es (quiet_settling paths) cut) carried.acted))

module _ (act : Act) (flow : Flow) (settings : Settings) (h : Parts) (unhalted : h.halt.fault ≡ None) (a b : Device) (out : Sunk) (paths : List Path) (round : Round) where
  broken_plan :
      (live : LivePlan) → HasSwept act flow settings h (with_live live h) paths round a b → WhereTold a (Late act flow settings h unhalted) →
      is_broken round ≡ true → HasTurned act flow settings h (heeded (Err fault.Device) (with_live live h)) false a b out out
  broken_plan live swept late broken =
      turned_by act flow settings h unhalted a b out live (Err fault.Device) true swept.later tells_device
      (broken_acted act flow settings h unhalted live paths round a b swept.acted late broken) swept.given

  by_plan :
      (live : LivePlan) (c : Device) (answer : Result (Unit {0}) Fault) → HasSwept act flow settings h (with_live live h) paths round a b →
      WhereTold a (Late act flow settings h unhalted) → IsConcluded act paths round b c answer →
      HasTurned act flow settings h (heeded answer (with_live live h)) false a c out out
  by_plan live c _ swept late (Firm whole carried) = firm_plan act flow settings h unhalted a c out paths round b live swept late whole carried
  by_plan live c _ swept late (Unfirm whole carried) = unfirm_plan act flow settings h unhalted a c out paths round b live swept late whole carried
  by_plan live c _ swept late (WasBroken broken same) =
      subst (λ d. HasTurned act flow settings h (heeded (Err fault.Device) (with_live live h)) false a d out out) (sym same) (broken_plan live swept late broken)

  -- Rounds of removals, made firm in the end, are a turn.
  pub sweep_turns :
      (k : Parts) (c : Device) (answer : Result (Unit {0}) Fault) → HasSwept act flow settings h k paths round a b →
      WhereTold a (λ w. WhereUnhalted MaySpend flow settings h w) → IsConcluded act paths round b c answer →
      HasTurned act flow settings h (heeded answer k) false a c out out
  sweep_turns k c answer swept late concluded =
      subst (λ x. HasTurned act flow settings h (heeded answer x) false a c out out) (sym swept.only_plan)
      (by_plan k.live c answer (subst (λ x. HasSwept act flow settings h x paths round a b) swept.only_plan swept) late concluded)
