-- What the functions of a sweep answer.
use Rattle.std.proofs.Common.{◌≡◌, inl, inr, ℕ, ◌≤◌, ◌+◌, arith, Bool, true, false, List, [], ◌∷◌, ◌++◌, length, refl, sym, ap, subst, ◌∙◌, Option, Some, None, Result, Ok, Err, append-nil}
use Rattle.std.specs.Prelude.{is_err, is_none}
use Rattle.std.proofs.Math.Bool.{or-false}
use Rattle.smk_world.specs.declared.event.Call.TheVariants.{Removed as RemovedCall, Settled}
use Rattle.smk_world.specs.declared.event.Failed.{Failed}
use Rattle.smk_world.specs.Devices.{Device, HasCalled, HasCarried, Sunk, WhereTold}
use Rattle.smk_world.specs.Requests.Request.{Settle}
use Rattle.smk_world.specs.Trees.{Act, Path}
use Rattle.smk_world.proofs.Devices.{acted_nothing, carried_call}
use Rattle.smk_flow.specs.Flows.{Flow}
use Rattle.smk_pick.specs.declared.settings.Settings.{Settings}
use Rattle.smk_plan_live.specs.Lives.{IsLive}
use Rattle.smk_report.specs.declared.fault.Fault.{Fault}
use Rattle.smk_run.proofs.Honest.{given_none}
use Rattle.smk_laws_turns.specs.Hubs.{Parts}
use Rattle.smk_laws_turns.proofs.Going.{rests_there}
use Rattle.smk_laws_begins.specs.Sweeping.{with_live}
use Rattle.smk_drive_hub.specs.Keeping.{heeded}
use Rattle.smk_drive_hub.specs.Turned.{HasTurned, IsToldSoFar, LeadOn, Somewhere, TellsOn}
use Rattle.smk_drive_begin.specs.declared.rounds.Round.{Round}
use Rattle.smk_drive_begin.specs.declared.rounds.Round.TheVariants.{Removed}
use Rattle.smk_drive_begin.specs.Rounds.{Firm, HasFailed, HasRound, HasSwept, IsAsWas, IsConcluded, IsFirm, Unfirm, answer_by, is_broken, settle_requests}
use Rattle.smk_drive_begin.proofs.Joining.{swept_then}

-- ## Calls

-- the call that makes removals firm, where there are some
pub settled_carried :
    (act : Act) (paths : List Path) (old new : Device) (r : Result (Unit {0}) Failed) → 1 ≤ length paths → HasCalled act old new (Settled paths r) →
    HasCarried act (settle_requests paths) old new (is_err r)
settled_carried act [] old new r some call = absurd (omega (arith, some))
settled_carried act (p ∷ paths) old new r some call = carried_call (Settle (p ∷ paths)) refl refl call

-- the same call, told by equal words
pub called_at :
    (act : Act) (old new : Device) (p q : Path) (r s : Result (Unit {0}) Failed) → HasCalled act old new (RemovedCall q r) → q ≡ p → r ≡ s →
    HasCalled act old new (RemovedCall p s)
called_at act old new p q r s call at is =
    subst (λ x. HasCalled act old new (RemovedCall p x)) is (subst (λ x. HasCalled act old new (RemovedCall x r)) at call)

-- ## The end

pub concluded_by :
    (act : Act) (paths : List Path) (round : Round) (result : Result (Unit {0}) Fault) (old new : Device) → is_broken round ≡ false →
    IsFirm act paths (answer_by round) result old new → IsConcluded act paths round old new result
concluded_by act paths round _ _ _ whole (IsAsWas old new carried) = Firm whole carried
concluded_by act paths round _ _ _ whole (HasFailed old new carried) = Unfirm whole carried

-- ## Rounds

-- the run stands somewhere after rounds in which no fault came
pub still_somewhere :
    (act : Act) (flow : Flow) (settings : Settings) (h k : Parts) (paths : List Path) (a b : Device) → HasSwept act flow settings h k paths Removed a b →
    h.halt.fault ≡ None → WhereTold a (λ w. Somewhere flow settings h w) → WhereTold b (λ w. Somewhere flow settings k w)
still_somewhere act flow settings h k paths a b swept unhalted somewhere = λ v told.
    let d = swept.acted.did v told in
    let o = somewhere d.0 d.1 in
    let to = d.2.2 o.rules o.entry o.stand o.before o.deeds o.by o.at (sym o.at.halted ∙ unhalted) in
    subst (λ x. Somewhere flow settings x v) (sym swept.only_plan)
    (subst (λ x. Somewhere flow settings (with_live k.live h) x) (sym d.2.3)
    (record { rules = o.rules; entry = o.entry; stand = to.stand; before = o.before ++ d.2.0; deeds = o.deeds; by = o.by; at = to.at }))

pub still_unhalted :
    (act : Act) (flow : Flow) (settings : Settings) (h k : Parts) (paths : List Path) (round : Round) (a b : Device) →
    HasSwept act flow settings h k paths round a b → h.halt.fault ≡ None → k.halt.fault ≡ None
still_unhalted act flow settings h k paths round a b swept unhalted = ap (λ (x : Parts). x.halt.fault) swept.only_plan ∙ unhalted

-- one round more
pub round_more :
    (act : Act) (flow : Flow) (settings : Settings) (h k l : Parts) (were are : List Path) (round : Round) (a b c : Device) →
    HasSwept act flow settings h k were Removed a b → HasRound act flow settings k l were are round b c → HasSwept act flow settings h l are round a c
round_more act flow settings h k l were are round a b c swept next =
    subst (λ ps. HasSwept act flow settings h l ps round a c) (sym next.taken)
    (swept_then act flow settings h l were next.paths round a b c k swept next.swept)

-- ## Nothing is done

-- no fault has come, where the code was told so
pub none_of : (o : Option Fault) (b : Bool) → b ≡ is_none o → b ≡ true → o ≡ None
none_of None b is so = refl
none_of (Some f) b is so = absurd (go (sym is ∙ so))
  where
    go : false ≡ true → ⊥
    go e = cc

-- where a fault has come
pub turns_nothing :
    (act : Act) (flow : Flow) (settings : Settings) (h : Parts) (d : Device) (out : Sunk) → IsLive h.live → HasTurned act flow settings h h false d d out out
turns_nothing act flow settings h d out alive =
    let acted = acted_nothing act (λ w es. LeadOn flow settings h h [] w es) d (λ w rules entry s before deeds are at. rests_there rules entry h s w before deeds at) in
    record {
      deeds = [];
      failure = false;
      lost = false;
      led = λ w1 e. let x = acted.did w1 e in (x.0, x.1, (x.2.0, x.2.1, (x.2.2, λ unwaited. absurd (false_true unwaited)), x.2.3));
      given = given_none act d;
      stays = acted.stays;
      cause = acted.cause;
      fails = λ unwaited. absurd (false_true unwaited);
      waits = sym (or-false h.halt.only_waits);
      steady = λ was. was;
      alive = alive;
      seats = λ seated. seated;
      counts = record { started = at_most h.tally.started; done = at_most h.tally.done; failed = at_most h.tally.failed };
      silent = λ why. elim why [ inl silent ↦ silent | inr lost ↦ absurd (false_true lost) ];
      outputs = λ is. inl is;
      text =
          record {
            told = λ now e. (now, e, ([], told_same, sym (append-nil now)));
            stays = λ quiet some. some;
            cause = record { later = omega arith; rose = λ lost. absurd (false_true lost) };
            quiet = λ quiet. refl;
          };
    }
  where
    false_true : false ≡ true → ⊥
    false_true e = cc

    at_most : (n : ℕ) → n ≤ n + 1
    at_most n = omega arith

    told_same : TellsOn flow h h [] []
    told_same deeds before told =
        subst (λ ds. IsToldSoFar flow h ds (before ++ [])) (sym (append-nil deeds)) (subst (IsToldSoFar flow h deeds) (sym (append-nil before)) told)

-- what a sweep leaves of what is kept
pub places_stay : (answer : Result (Unit {0}) Fault) (h k : Parts) → k ≡ with_live k.live h → (heeded answer k).places ≡ h.places
places_stay (Ok u) h k only = ap (λ (x : Parts). x.places) only
places_stay (Err f) h k only = ap (λ (x : Parts). x.places) only

pub tally_stays : (answer : Result (Unit {0}) Fault) (h k : Parts) → k ≡ with_live k.live h → (heeded answer k).tally ≡ h.tally
tally_stays (Ok u) h k only = ap (λ (x : Parts). x.tally) only
tally_stays (Err f) h k only = ap (λ (x : Parts). x.tally) only
