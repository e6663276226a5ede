-- From the calls that close a job to how it was closed.
use Rattle.std.proofs.Common.{◌≡◌, ◌≢◌, ◌<◌, ℕ, zero, suc, cond, true, false, not, List, [], ◌∷◌, ◌++◌, refl, ap, sym, subst, ◌∙◌, inl, inr, Option, Result, Ok, Err, arith, true≢false}
use Rattle.std.specs.Prelude.{Contains}
use Rattle.std.proofs.lemmas.Bool.{eq-eqb}
use Rattle.smk_world.specs.declared.event.Call.{Call}
use Rattle.smk_world.specs.declared.event.Call.TheVariants.{Waited}
use Rattle.smk_world.specs.declared.event.Change.{Change}
use Rattle.smk_world.specs.declared.event.Ended.{Ended}
use Rattle.smk_world.specs.declared.event.Event.{Event}
use Rattle.smk_world.specs.declared.event.Failed.{Failed}
use Rattle.smk_world.specs.declared.event.WorkFault.{WorkFault}
use Rattle.smk_world.specs.declared.event.WorkFault.TheVariants.{Failed as FailedFault}
use Rattle.smk_world.specs.World.{World, run, without_number}
use Rattle.smk_world.specs.Calls.{Happened, Lets, device_failed}
use Rattle.smk_world.specs.Devices.{Device, HasCalled, HasActed, HasEnded, HasCarried}
use Rattle.smk_world.specs.Requests.{HasDone, IsCutShort}
use Rattle.smk_world.specs.Runs.{Did}
use Rattle.smk_world.specs.Trees.{Act}
use Rattle.smk_world.proofs.Runs.{did_both}
use Rattle.smk_world.proofs.Devices.{acted_as}
use Rattle.smk_job.specs.declared.fault.CloseFault.{CloseFault}
use Rattle.smk_job.specs.declared.fault.CloseFault.TheVariants as fault
use Rattle.smk_job.specs.Jobs.{Underway, abandon_requests}
use Rattle.smk_job.specs.Sights.{HasFinished, close_failed}
use Rattle.smk_run.specs.declared.ending.Ending.{Ending}
use Rattle.smk_run.specs.declared.ending.Ending.TheVariants.{Status}
use Rattle.smk_run.specs.Closings.{wait_event, HasWaited, HasSettled, HasClosed, ending_of}
use Rattle.smk_run.proofs.Rising.{rose_earlier}

-- ## One call

pub did_first : (act : Act) (P : World → List Event → Type 0) (a b : Option World) (call : Call)
    → Happened act a b call → ((w : World) (left : List Change) → Lets act w call left → P w (record { call = call; left = left } ∷ [])) → Did act a b P
did_first act P a b call now more = λ w1 e.
    let h = now.told w1 e in (h.0, h.1, (record { call = call; left = h.2.0 } ∷ [], (h.2.1, tt), more h.0 h.2.0 h.2.1.lets, h.2.2))

-- ## After the wait

settled_zero : (j : Underway) (closed : Result (Unit {0}) CloseFault) (status : ℕ) (w : World) (es : List Event) → status ≡ 0 → HasFinished j closed w es → HasSettled j (ending_of closed) status w es
settled_zero j (Ok u) status w es nought h = (nought, h)
settled_zero j (Err (fault.NoOutput p)) status w es nought h = (nought, h)
settled_zero j (Err (fault.WrongKind p)) status w es nought h = (nought, h)
settled_zero j (Err (fault.BadMember p)) status w es nought h = (nought, h)
settled_zero j (Err fault.Device) status w es nought h = inl (nought, h)
settled_zero j (Err fault.OutOfMemory) status w es nought h = (nought, h)

failed_so : (closed : Result (Unit {0}) CloseFault) → close_failed closed ≡ device_failed (ending_of closed)
failed_so (Ok u) = refl
failed_so (Err (fault.NoOutput p)) = refl
failed_so (Err (fault.WrongKind p)) = refl
failed_so (Err (fault.BadMember p)) = refl
failed_so (Err fault.Device) = refl
failed_so (Err fault.OutOfMemory) = refl

-- the job was finished
pub finished : (act : Act) (j : Underway) (closed : Result (Unit {0}) CloseFault) (r : Result Ending WorkFault) (status : ℕ) (a b : Device)
    → status ≡ 0 → r ≡ ending_of closed → HasActed act (HasFinished j closed) a b (close_failed closed) → HasActed act (HasSettled j r status) a b (device_failed r)
finished act j closed r status a b nought is h =
    subst (λ x. HasActed act (HasSettled j x status) a b (device_failed x)) (sym is)
    (acted_as act (HasFinished j closed) (HasSettled j (ending_of closed) status) a b (close_failed closed) (device_failed (ending_of closed)) (failed_so closed) (λ w es f. settled_zero j closed status w es nought f) h)

-- it was abandoned
pub abandoned : (act : Act) (j : Underway) (status : ℕ) (a b : Device) → status ≢ 0 → HasCarried act (abandon_requests j) a b false → HasActed act (HasSettled j (Ok (Status status)) status) a b false
abandoned act j status a b other h =
    acted_as act (λ w es. HasDone (abandon_requests j) es) (HasSettled j (Ok (Status status)) status) a b false false refl (λ w es done. (refl, other, done)) h.acted

pub not_abandoned : (act : Act) (j : Underway) (status : ℕ) (a b : Device) → status ≢ 0 → HasCarried act (abandon_requests j) a b true → HasActed act (HasSettled j (Err FailedFault) status) a b true
not_abandoned act j status a b other h =
    acted_as act (λ w es. IsCutShort (abandon_requests j) es) (HasSettled j (Err FailedFault) status) a b true true refl (λ w es cut. inr (other, cut)) h.acted

-- ## The wait

as_closed : (j : Underway) (r : Result Ending WorkFault) (w : World) (es : List Event) → HasWaited j.number (HasSettled j r) w es → HasClosed j r w es
as_closed j (Ok ending) w es h = h
as_closed j (Err f) w es h = inr h

did_closed : (act : Act) (j : Underway) (r : Result Ending WorkFault) (ended : Ended) (a b c : Option World)
    → ended.number ≡ j.number → Happened act a b (Waited (Ok ended)) → Did act b c (HasSettled j r ended.status) → Did act a c (HasClosed j r)
did_closed act j r ended a b c is_it now settled =
    did_both act (λ w es. (left : List Change) × (es ≡ wait_event ended left ∷ [])) (HasSettled j r ended.status) (HasClosed j r) a b c
    (did_first act (λ w es. (left : List Change) × (es ≡ wait_event ended left ∷ [])) a b (Waited (Ok ended)) now (λ w left lets. (left, refl)))
    settled
    (λ w es fs follows f follows2 g. as_closed j r w (es ++ fs) (record {
      ended = ended;
      left = f.0;
      rest = fs;
      events = ap (λ l. l ++ fs) f.1;
      is_it = is_it;
      then_did = subst (λ l. HasSettled j r ended.status (run w l) fs) f.1 g;
    }))

-- no child is left
pub none_left : (ended : Ended) (n : ℕ) (ns : List ℕ) → ended.number ≡ n → ns ≡ n ∷ [] → without_number ended.number ns ≡ []
none_left ended n ns same one = ap (λ l. without_number ended.number l) one ∙ ap (λ b. cond (not b) (n ∷ []) []) (eq-eqb n ended.number (sym same))

-- the child ended, and then its job was settled
pub closed_after : (act : Act) (j : Underway) (r : Result Ending WorkFault) (ended : Ended) (a b c : Device)
    → a.running ≡ j.number ∷ [] → ended.number ≡ j.number → HasCalled act a b (Waited (Ok ended)) → HasActed act (HasSettled j r ended.status) b c (device_failed r) → HasEnded act (HasClosed j r) a c (device_failed r)
closed_after act j r ended a b c one is_it now settled =
    record {
      did = did_closed act j r ended a.world b.world c.world is_it now.world settled.did;
      stays = λ quiet some. settled.stays quiet (now.world.stays some refl);
      cause = record {
        later = omega (arith, now.cause.later, settled.cause.later);
        rose = λ failure. rose_earlier a.faults b.faults c.faults now.cause.later (settled.cause.rose failure);
      };
      idle = λ quiet. settled.running ∙ now.running ∙ none_left ended j.number a.running is_it one;
    }

-- the wait failed
pub unwaited : (act : Act) (j : Underway) (e : Failed) (a b : Device) → HasCalled act a b (Waited (Err e)) → HasEnded act (HasClosed j (Err FailedFault)) a b true
unwaited act j e a b now =
    record {
      did = did_first act (HasClosed j (Err FailedFault)) a.world b.world (Waited (Err e)) now.world (λ w left lets. inl (refl, (e, ap (λ l. record { call = Waited (Err e); left = l } ∷ []) lets)));
      stays = λ quiet. absurd (true≢false quiet);
      cause = now.cause;
      idle = λ quiet. absurd (true≢false quiet);
    }

-- the only number that there is
only_number : (n m : ℕ) → Contains (m ∷ []) n → n ≡ m
only_number n m (zero, lt, is) = sym is
only_number n m (suc k, lt, is) = absurd (never k lt)
  where
    never : (k : ℕ) → suc k < 1 → ⊥
    never k lt = omega arith

pub number_is : (ns : List ℕ) (n m : ℕ) → ns ≡ m ∷ [] → Contains ns n → n ≡ m
number_is ns n m is has = only_number n m (subst (λ l. Contains l n) is has)
