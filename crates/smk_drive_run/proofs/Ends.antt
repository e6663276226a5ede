-- What is told at the end of a run.
use Rattle.std.proofs.Common.{◌≡◌, ◌⊎◌, ◌&&◌, false, not, List, Bool, nat_eq, sym, ap, subst, ◌∙◌, Result, Ok, Err}
use Rattle.std.specs.Prelude.{is_ok}
use Rattle.smk_world.specs.Devices.{Sunk}
use Rattle.smk_world.specs.Trees.{Path}
use Rattle.smk_report.specs.declared.fault.Fault.{Fault}
use Rattle.smk_report.specs.declared.fault.Fault.TheVariants as fault
use Rattle.smk_run.specs.declared.tally.Tally.{Tally}
use Rattle.smk_run.specs.Reports.{HasReported, IsReport}
use Rattle.smk_run.specs.Runs.{is_output}
use Rattle.smk_plan_live.specs.Live.{LivePlan}
use Rattle.smk_laws_turns.specs.Hubs.{Parts}
use Rattle.smk_laws_begins.specs.Ended.{IsAllMade}
use Rattle.smk_laws_begins.specs.Whole.{HasConcluded}
use Rattle.smk_laws_begins.proofs.Concluding.{made_unless, told_so, unput_so, untold_so}
use Rattle.smk_drive_run.specs.Keeping.{HasTold, closing_text, end_by, is_all_made}

pub untold_by : (targets : List Path) (live : LivePlan) (tally : Tally) (p : Sunk) → HasTold targets live tally (Err fault.OutOfMemory) p p
untold_by targets live tally p = λ k kept counts none. untold_so targets k p none

module _ (targets : List Path) (live : LivePlan) (tally : Tally) (current : List Bool) (r : Result (Unit {0}) Fault) (unmade : Bool) (p q : Sunk)
    (same : current ≡ live.plan.current) (is : unmade ≡ (nat_eq tally.failed 0 && not (is_all_made live.plan.states live.plan.current)))
    (test : unmade ≡ false) (put : HasReported (IsReport (is_ok r) (closing_text targets current tally)) p q (is_output r))
  where
    made : (k : Parts) → k.live ≡ live → k.tally ≡ tally → k.tally.failed ≡ 0 → IsAllMade k
    made k kept counts =
        made_unless k (is_all_made live.plan.states live.plan.current) (ap (λ (l : LivePlan). is_all_made l.plan.states l.plan.current) (sym kept))
        (ap (λ (t : Tally). nat_eq t.failed 0 && not (is_all_made live.plan.states live.plan.current)) counts ∙ (sym is ∙ test))

    pub put_by : r ≡ Ok tt → HasTold targets live tally (Ok (end_by tally current)) p q
    put_by done = λ k kept counts none.
        subst (λ t. HasConcluded targets k (Ok (end_by t current)) p q) counts
        (told_so targets k current r p q none (same ∙ ap (λ (l : LivePlan). l.plan.current) (sym kept)) (made k kept counts) done
        (subst (λ t. HasReported (IsReport (is_ok r) (closing_text targets current t)) p q (is_output r)) (sym counts) put))

    pub unput_by : (f : Fault) → r ≡ Err f → (f ≡ fault.Output) ⊎ (f ≡ fault.OutOfMemory) → HasTold targets live tally (Err f) p q
    unput_by f failed which = λ k kept counts none.
        unput_so targets k current r f p q none (same ∙ ap (λ (l : LivePlan). l.plan.current) (sym kept)) (made k kept counts) failed which
        (subst (λ t. HasReported (IsReport (is_ok r) (closing_text targets current t)) p q (is_output r)) (sym counts) put)
