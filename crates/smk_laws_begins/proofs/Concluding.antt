-- How a run is told at its end.
use Rattle.std.proofs.Common.{◌≡◌, ◌⊎◌, inl, inr, Bool, true, false, ◌&&◌, not, List, refl, sym, ap, subst, ◌∙◌, nat_eq, eq-eqb, Some, None, Result, Ok, Err, true≢false}
use Rattle.std.specs.Prelude.{is_ok}
use Rattle.std.specs.List.{list_all}
use Rattle.smk_base.proofs.Places.{and_first, and_second}
use Rattle.smk_world.specs.Devices.{Sunk}
use Rattle.smk_world.specs.Trees.{Path}
use Rattle.smk_trigger.specs.JobStates.{is_clean}
use Rattle.smk_report.specs.declared.fault.Fault.{Fault}
use Rattle.smk_report.specs.declared.fault.Fault.TheVariants as fault
use Rattle.smk_run.specs.Reports.{HasReported, IsReport}
use Rattle.smk_run.specs.Runs as runs
use Rattle.smk_run.proofs.Texts.{reported_nothing}
use Rattle.smk_drive_course.specs.declared.ending.End.{End}
use Rattle.smk_laws_turns.specs.Hubs.{Parts}
use Rattle.smk_laws_begins.specs.Ended.{IsAllMade, IsEndOf}
use Rattle.smk_laws_begins.specs.Whole.{Faulted, HasConcluded, IsClosing, Told, Unput, Untold, closing_for}
use Rattle.smk_laws_begins.proofs.Faults.{is_the_output}

abbrev end_of : Parts → List Bool → End
end_of k current = record { started = k.tally.started; done = k.tally.done; failed = k.tally.failed; first = k.tally.first; current = current }

is_end : (k : Parts) (current : List Bool) → current ≡ k.live.plan.current → IsEndOf k (end_of k current)
is_end k current same = record { started = refl; done = refl; failed = refl; first_one = refl; current = same }

-- all is made, unless a job has failed
pub made_unless :
    (k : Parts) (made : Bool) →
    made ≡ (list_all is_clean k.live.plan.states && list_all (λ (b : Bool). b) k.live.plan.current) →
    (nat_eq k.tally.failed 0 && not made) ≡ false → k.tally.failed ≡ 0 → IsAllMade k
made_unless k made is test none =
    let all = sym is ∙ unless made (subst (λ b. (b && not made) ≡ false) (eq-eqb k.tally.failed 0 none) test) in
    record {
      clean = and_first (list_all is_clean k.live.plan.states) (list_all (λ (b : Bool). b) k.live.plan.current) all;
      current = and_second (list_all is_clean k.live.plan.states) (list_all (λ (b : Bool). b) k.live.plan.current) all;
    }
  where
    unless : (b : Bool) → not b ≡ false → b ≡ true
    unless true e = refl
    unless false e = absurd (true≢false e)

-- a fault has come
pub faulted_so : (targets : List Path) (k : Parts) (f : Fault) (p : Sunk) → k.halt.fault ≡ Some f → HasConcluded targets k (Err f) p p
faulted_so targets k f p came =
    record {
      told = None;
      lost = false;
      concludes = Faulted f came;
      text = reported_nothing (IsClosing targets None (Err f)) p refl;
      loses = λ is. inl (came ∙ ap Some (is_the_output f is));
      whole = λ is. refl;
    }

-- there is no memory to tell the end
pub untold_so : (targets : List Path) (k : Parts) (p : Sunk) → k.halt.fault ≡ None → HasConcluded targets k (Err fault.OutOfMemory) p p
untold_so targets k p none =
    record {
      told = None;
      lost = false;
      concludes = Untold fault.OutOfMemory none refl;
      text = reported_nothing (IsClosing targets None (Err fault.OutOfMemory)) p refl;
      loses = λ is. absurd (true≢false (sym is));
      whole = λ is. refl;
    }

-- the last lines were put
pub told_so :
    (targets : List Path) (k : Parts) (current : List Bool) (r : Result (Unit {0}) Fault) (p q : Sunk) →
    k.halt.fault ≡ None →
    current ≡ k.live.plan.current →
    (k.tally.failed ≡ 0 → IsAllMade k) →
    r ≡ Ok tt →
    HasReported (IsReport (is_ok r) (closing_for targets (Some (end_of k current)))) p q (runs.is_output r) → HasConcluded targets k (Ok (end_of k current)) p q
told_so targets k current r p q none same made is put =
    record {
      told = Some (end_of k current);
      lost = false;
      concludes = Told (end_of k current) none (is_end k current same) made;
      text = subst (λ x. HasReported (IsReport (is_ok x) (closing_for targets (Some (end_of k current)))) p q (runs.is_output x)) is put;
      loses = λ e. absurd (true≢false (sym e));
      whole = λ e. refl;
    }

-- they weren't, or a front of them alone
pub unput_so :
    (targets : List Path) (k : Parts) (current : List Bool) (r : Result (Unit {0}) Fault) (f : Fault) (p q : Sunk) →
    k.halt.fault ≡ None →
    current ≡ k.live.plan.current →
    (k.tally.failed ≡ 0 → IsAllMade k) →
    r ≡ Err f →
    (f ≡ fault.Output) ⊎ (f ≡ fault.OutOfMemory) →
    HasReported (IsReport (is_ok r) (closing_for targets (Some (end_of k current)))) p q (runs.is_output r) → HasConcluded targets k (Err f) p q
unput_so targets k current r f p q none same made is (inl e) put =
    subst (λ x. HasConcluded targets k (Err x) p q) (sym e)
    (record {
      told = Some (end_of k current);
      lost = true;
      concludes = Unput (end_of k current) fault.Output none (is_end k current same) made refl;
      text =
          subst (λ x. HasReported (IsReport (is_ok x) (closing_for targets (Some (end_of k current)))) p q (runs.is_output x)) (is ∙ ap Err e) put;
      loses = λ o. inr refl;
      whole = λ o. absurd (true≢false (sym o));
    })
unput_so targets k current r f p q none same made is (inr e) put =
    subst (λ x. HasConcluded targets k (Err x) p q) (sym e)
    (record {
      told = Some (end_of k current);
      lost = false;
      concludes = Unput (end_of k current) fault.OutOfMemory none (is_end k current same) made refl;
      text =
          subst (λ x. HasReported (IsReport (is_ok x) (closing_for targets (Some (end_of k current)))) p q (runs.is_output x)) (is ∙ ap Err e) put;
      loses = λ o. absurd (true≢false (sym o));
      whole = λ o. refl;
    })
