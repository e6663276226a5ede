use Rattle.std.proofs.Common.{inl, refl, subst, is_ok, Err}
use Rattle.smk_report.specs.declared.fault.Fault.TheVariants.{OutOfMemory}
use Rattle.smk_run.specs.Reports.{HasReported, IsReport}
use Rattle.smk_run.specs.Runs.{is_output}
use Rattle.smk_run.proofs.Texts.{reported_nothing}
use Rattle.smk_make.specs.After.{IsAfter}
use Rattle.smk_make.specs.Closing.{is_current, closing_text}
use Rattle.smk_make.specs.Making.{IsClosing}
use Rattle.smk_make.proofs.Made.{closed, of_error}
use Rattle.smk_make.proofs.making.report_end.Goals as goal

pub returns-in_default-clause-told : goal.returns-in_default-clause-told
returns-in_default-clause-told g c =
    let jobs = c.args.jobs.now in
    reported_nothing (IsClosing jobs c.args.targets.now c.args.tally.now (IsAfter c.args.duties.now jobs.befores c.args.tally.now) (Err OutOfMemory)) _ (inl (refl, refl))

pub returns-clause-told : goal.returns-clause-told
returns-clause-told g c =
    let jobs = c.args.jobs.now in
    let targets = c.args.targets.now in
    let tally = c.args.tally.now in
    let old = g.O.Sink.sunk c.args.out.now in
    let new = g.O.Sink.sunk c.close_report.new.out in
    let r = c.close_report.result in
    closed jobs targets tally (IsAfter c.args.duties.now jobs.befores tally) r c.in-Ok.after old new
    (subst (λ d. IsAfter d jobs.befores tally c.in-Ok.after) c.as_slice.ensures (subst (λ b. IsAfter c.as_slice.result.now b tally c.in-Ok.after) c.as_slice-2.ensures c.in-Ok.ensures))
    (of_error r c.close_report.ensures.faults)
    (subst (λ a. HasReported (IsReport (is_ok r) (closing_text (is_current a) jobs.makers targets tally)) old new (is_output r)) c.as_slice-4.ensures
    (subst (λ m. HasReported (IsReport (is_ok r) (closing_text (is_current c.as_slice-4.result.now) m targets tally)) old new (is_output r)) c.as_slice-3.ensures c.close_report.ensures.told))
