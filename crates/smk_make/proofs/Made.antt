-- What a run did, with its last lines.
use Rattle.std.proofs.Common.{◌≡◌, ◌⊎◌, ℕ, Bool, true, false, List, [], ◌++◌, inl, inr, refl, sym, ap, subst, ◌∙◌, Option, Some, None, Result, Ok, Err, is_ok, length}
use Rattle.std.specs.Prelude.{IfErr}
use Rattle.smk_world.specs.Devices.{Device, Sunk}
use Rattle.smk_world.specs.Trees.{Path, Act}
use Rattle.smk_flow.specs.Flows.{Flow}
use Rattle.smk_chain.specs.declared.jobs.Jobs.{Jobs}
use Rattle.smk_store.specs.declared.fault.StoreFault.{StoreFault}
use Rattle.smk_store.specs.Stores.{Known}
use Rattle.smk_store.specs.Serials.{next_serial}
use Rattle.smk_trigger.specs.declared.reason.State.{State}
use Rattle.smk_report.specs.declared.fault.Fault.{Fault}
use Rattle.smk_report.specs.declared.fault.Fault.TheVariants as fault
use Rattle.smk_report.specs.Lines.{Text}
use Rattle.smk_plan.specs.declared.duty.Duty.{Duty}
use Rattle.smk_run.specs.declared.tally.Tally.{Tally}
use Rattle.smk_run.specs.Duties.{due, serials}
use Rattle.smk_plan.specs.Duties.{AreFor}
use Rattle.smk_run.specs.Reports.{HasReported, IsReport, report_of}
use Rattle.smk_run.specs.Runs.{HasRun, IsOutcome, IsTally, is_whole, is_output, is_device, leaves_whole, is_device_fault}
use Rattle.smk_run.proofs.Texts.{reported_as, reported_then}
use Rattle.smk_make.specs.After.{AreCurrent, IsAfter}
use Rattle.smk_make.specs.Closing.{is_current, closing_text, verdict_of, answer_of}
use Rattle.smk_report.specs.Faults.{of_store}
use Rattle.smk_make.specs.Faults.{IsOfReport, IsOfJob}
use Rattle.smk_make.specs.Making.{HasMade, Concludes, IsClosing, IsText, GoesOn, NotFirm, Made, AreWhatIsMeant}
use Rattle.smk_make.proofs.Counting.{first_status}
use Rattle.smk_make.proofs.Current.{are_current}

abbrev pub fails : Fault → Result (Unit {0}) Fault
fails f = Err f

-- ## The answer of a run that came to its end

-- the kind of a verdict: all lines are put, and neither device nor sink failed
pub record IsVerdict (r : Result (Unit {0}) Fault) : Type 0 where
  pub whole : is_whole r ≡ true
  pub output : is_output r ≡ false
  pub device : is_device r ≡ false

kinds : (o : Option Fault) → ((f : Fault) → o ≡ Some f → IsOfJob f) → IsVerdict (verdict_of o)
kinds None h = record { whole = refl; output = refl; device = refl }
kinds (Some f) h = let one = h f refl in record { whole = one.0; output = one.1; device = one.2 }

pub verdict : (tally : Tally) (r : Result (Unit {0}) Fault) → r ≡ answer_of tally → ((f : Fault) → tally.first ≡ Some f → IsOfJob f) → IsVerdict r
verdict tally r is h = subst IsVerdict (sym is) (kinds tally.first h)

-- ## The last lines

of_report_front : (f : Fault) → IsOfReport f → leaves_whole f ≡ false
of_report_front f (inl e) = ap leaves_whole e
of_report_front f (inr e) = ap leaves_whole e

pub of_report_quiet : (f : Fault) → IsOfReport f → is_device_fault f ≡ false
of_report_quiet f (inl e) = ap is_device_fault e
of_report_quiet f (inr e) = ap is_device_fault e

module _ (jobs : Jobs) (targets : List Path) (tally : Tally) (Current : List Bool → Type 0) where
  closing_as : (r : Result (Unit {0}) Fault) (after : List Bool) (text : Text) → Current after → IsReport (is_whole r) (closing_text (is_current after) jobs.makers targets tally) text → IsClosing jobs targets tally Current r text
  closing_as r after text current report = inr (after, current, report)

  -- they were put, all of them or not
  pub closed : (r : Result (Unit {0}) Fault) (after : List Bool) (a b : Sunk) → Current after → ((f : Fault) → r ≡ Err f → IsOfReport f) → HasReported (IsReport (is_ok r) (closing_text (is_current after) jobs.makers targets tally)) a b (is_output r)
      → HasReported (IsClosing jobs targets tally Current r) a b (is_output r)
  closed (Ok u) after a b current kind told =
      reported_as (IsReport true (closing_text (is_current after) jobs.makers targets tally)) (IsClosing jobs targets tally Current (Ok u)) a b false false refl (λ t report. closing_as (Ok u) after t current report) told
  closed (Err f) after a b current kind told =
      let text = closing_text (is_current after) jobs.makers targets tally in
      reported_as (IsReport false text) (IsClosing jobs targets tally Current (fails f)) a b (is_output (fails f)) (is_output (fails f)) refl
      (λ t front. closing_as (fails f) after t current (subst (λ x. IsReport x text t) (sym (of_report_front f (kind f refl))) front)) told

  no_memory : (u : Unit {0}) → ◌≡◌ {A = Result (Unit {0}) Fault} (Ok u) (Err fault.OutOfMemory) → ⊥
  no_memory u e = cc

  -- they were put, and the answer is a verdict
  pub closed_by : (r cr : Result (Unit {0}) Fault) (u : Unit {0}) (a b : Sunk) → cr ≡ Ok u → IsVerdict r → HasReported (IsClosing jobs targets tally Current cr) a b (is_output cr) → HasReported (IsClosing jobs targets tally Current r) a b (is_output r)
  closed_by r cr u a b is v h =
      reported_as (IsClosing jobs targets tally Current cr) (IsClosing jobs targets tally Current r) a b (is_output cr) (is_output r) (ap is_output is ∙ sym v.output)
      (λ t closing. go t (subst (λ x. IsClosing jobs targets tally Current x t) is closing)) h
    where
      go : (t : Text) → IsClosing jobs targets tally Current (Ok u) t → IsClosing jobs targets tally Current r t
      go t (inl none) = absurd (no_memory u none.0)
      go t (inr (after, current, report)) = inr (after, current, subst (λ b. IsReport b (closing_text (is_current after) jobs.makers targets tally) t) (sym v.whole) report)

  -- by another name of which jobs are current
  pub closing_by : (Other : List Bool → Type 0) (r : Result (Unit {0}) Fault) (text : Text) → ((after : List Bool) → Current after → Other after) → IsClosing jobs targets tally Current r text → IsClosing jobs targets tally Other r text
  closing_by Other r text to (inl none) = inl none
  closing_by Other r text to (inr (after, current, report)) = inr (after, to after current, report)

-- ## The run and its last lines

module _ (act : Act) (flow : Flow) (cores : ℕ) (targets : List Path) (jobs : Jobs) (first : Option ℕ) (duties : List Duty) (a b : Device) where
  abbrev pub Ran : Result Tally Fault → Sunk → Sunk → Type 0
  Ran r p q = HasRun act flow cores (due first duties jobs.jobs) (serials jobs.makers first duties) r a b p q

  -- the run itself has a fault
  pub made_fault : (r : Result Tally Fault) (f : Fault) (p q : Sunk) → r ≡ Err f → Ran r p q → HasMade act flow cores targets jobs first duties (Err f) a b p q
  made_fault r f p q is h = record {
    turns = h.turns;
    failed = h.failed;
    ended = Err f;
    in_order = h.in_order;
    answer = subst (λ x. IsOutcome flow (due first duties jobs.jobs) h.turns h.failed x) is h.answer;
    concluded = refl;
    fits = h.fits;
    ran = h.ran;
    given = h.given;
    text = subst (λ x. HasReported (IsReport (is_whole x) (report_of flow h.turns)) p q (is_output x)) is h.text;
  }

  tally_of : (r : Result Tally Fault) (tally : Tally) (p q : Sunk) → r ≡ Ok tally → (h : Ran r p q) → (h.failed ≡ false) × IsTally flow (due first duties jobs.jobs) h.turns tally
  tally_of r tally p q is h = subst (λ x. IsOutcome flow (due first duties jobs.jobs) h.turns h.failed x) is h.answer

  pub job_failed : (r : Result Tally Fault) (tally : Tally) (p q : Sunk) → r ≡ Ok tally → Ran r p q → (f : Fault) → tally.first ≡ Some f → IsOfJob f
  job_failed r tally p q is h f e = first_status flow h.turns f (sym (tally_of r tally p q is h).1.first ∙ e)

  -- the run came to its end, and its last lines were put or not
  pub made_ok : (r : Result Tally Fault) (tally : Tally) (result : Result (Unit {0}) Fault) (p m q : Sunk) → length duties ≡ length jobs.befores → r ≡ Ok tally → Ran r p m → Concludes (Ok tally) result
      → HasReported (IsClosing jobs targets tally (IsAfter duties jobs.befores tally) result) m q (is_output result)
      → HasMade act flow cores targets jobs first duties result a b p q
  made_ok r tally result p m q each is h concluded closing =
      let t = tally_of r tally p m is h in
      let lines : HasReported (IsReport true (report_of flow h.turns)) p m false = subst (λ x. HasReported (IsReport (is_whole x) (report_of flow h.turns)) p m (is_output x)) is h.text in
      record {
        turns = h.turns;
        failed = h.failed;
        ended = Ok tally;
        in_order = h.in_order;
        answer = t;
        concluded = concluded;
        fits = h.fits;
        ran = h.ran;
        given = h.given;
        text = reported_then (IsReport true (report_of flow h.turns)) (IsClosing jobs targets tally (IsAfter duties jobs.befores tally) result) (IsText act flow cores targets jobs first duties h.turns (Ok tally) result) p m q (is_output result)
            (λ x y one last. (
              y,
              ap (λ l. l ++ y) one,
              closing_by jobs targets tally (IsAfter duties jobs.befores tally) (AreCurrent jobs.befores duties h.turns) result y
                  (λ after current. are_current flow cores (due first duties jobs.jobs) jobs.befores duties h.turns tally h.in_order t.1 after each current) last,
            )) lines closing;
      }

pub of_error : (r : Result (Unit {0}) Fault) → IfErr r IsOfReport → (f : Fault) → r ≡ Err f → IsOfReport f
of_error r h f is = subst (λ x. IfErr x IsOfReport) is h

-- ## What is made once all is firm

pub goes_made : (act : Act) (flow : Flow) (cores : ℕ) (targets : List Path) (jobs : Jobs) (first : Option ℕ) (duties : List Duty) (r : Result (Unit {0}) Fault) (a b : Device) (p q : Sunk) (states : List State) (stored : List Known)
    → first ≡ next_serial stored → AreFor states duties → AreWhatIsMeant jobs states stored duties → HasMade act flow cores targets jobs first duties r a b p q
    → GoesOn act flow cores targets jobs states stored r a b p q (Ok tt)
goes_made act flow cores targets jobs first duties r a b p q states stored is for meant h = Made tt duties for meant (subst (λ n. HasMade act flow cores targets jobs n duties r a b p q) is h)

module _ (act : Act) (flow : Flow) (cores : ℕ) (targets : List Path) (jobs : Jobs) (states : List State) (stored : List Known) where
  -- the marks and notes weren't made firm
  pub not_firm : (settled : Result (Unit {0}) StoreFault) (f : StoreFault) (told : Fault) (a : Device) (p : Sunk) → settled ≡ Err f → told ≡ of_store f → GoesOn act flow cores targets jobs states stored (Err told) a a p p settled
  not_firm settled f told a p is told_is = subst (GoesOn act flow cores targets jobs states stored (Err told) a a p p) (sym is) (NotFirm f (ap (λ x. Err x) told_is) refl refl)

  -- they were
  pub with_settled : (result : Result (Unit {0}) Fault) (settled : Result (Unit {0}) StoreFault) (u : Unit {0}) (a b : Device) (p q : Sunk)
      → settled ≡ Ok u → GoesOn act flow cores targets jobs states stored result a b p q (Ok tt) → GoesOn act flow cores targets jobs states stored result a b p q settled
  with_settled result settled u a b p q is h = subst (GoesOn act flow cores targets jobs states stored result a b p q) (sym is) h
