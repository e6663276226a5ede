-- What is put of the line of a fault.
use Rattle.std.proofs.Common.{◌≡◌, false, [], Some, None, inl, inr, refl, sym, ◌∙◌, Result, Ok, Err, is_ok}
use Rattle.std.specs.Prelude.{is_err}
use Rattle.std.proofs.lemmas.List.{append-nil}
use Rattle.smk_world.specs.declared.event.Failed.{Failed}
use Rattle.smk_world.specs.Devices.{Sunk, HasPut}
use Rattle.smk_report.specs.Lines.{Text}
use Rattle.smk_report.specs.declared.fault.Fault.{Fault}
use Rattle.smk_report.specs.declared.fault.Fault.TheVariants as fault
use Rattle.smk_report.specs.Faults.{fault_text}
use Rattle.smk_run.specs.Reports.{IsReport}
use Rattle.smk_run.proofs.Texts.{reported_put, reported_as, reported_nothing}
use Rattle.smk_cli_calls.specs.Lines.{IsFaultLine, HasToldFault}

line_as : (f : Fault) (line : Text) (r : Result (Unit {0}) Failed) (text : Text) → line ≡ fault_text f → IsReport (is_ok r) line text → IsFaultLine (Some f) (is_err r) text
line_as f line (Ok u) text is whole = (([], sym (whole ∙ is) ∙ sym (append-nil text)), inl (whole ∙ is))
line_as f line (Err e) text is front = ((front.0, sym is ∙ front.1), inr (inl refl))

-- the line was put, or a front of it where the sink failed
pub told_line : (f : Fault) (line : Text) (a b : Sunk) (r : Result (Unit {0}) Failed) → line ≡ fault_text f → HasPut a b line r → HasToldFault (Some f) a b
told_line f line a b r is h =
    record {
      failed = is_err r;
      line = reported_as (IsReport (is_ok r) line) (IsFaultLine (Some f) (is_err r)) a b (is_err r) (is_err r) refl (λ t report. line_as f line r t is report) (reported_put line a b r h);
    }

-- nothing was put: there is no fault
pub told_none : (a : Sunk) → HasToldFault None a a
told_none a = record { failed = false; line = reported_nothing (IsFaultLine None false) a refl }

-- or no memory for its line
pub told_short : (a : Sunk) → HasToldFault (Some fault.OutOfMemory) a a
told_short a = record { failed = false; line = reported_nothing (IsFaultLine (Some fault.OutOfMemory) false) a ((fault_text fault.OutOfMemory, refl), inr (inr refl)) }
