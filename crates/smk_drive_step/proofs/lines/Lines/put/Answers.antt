use Rattle.std.proofs.Common.{true, false, sym, subst}
use Rattle.smk_run.specs.Reports.{HasReported}
use Rattle.smk_run.proofs.Texts.{reported_put}
use Rattle.smk_drive_step.specs.Telling.{IsPutIf}
use Rattle.smk_drive_step.proofs.lines.Lines.put.Goals as goal

pub returns-in-Err-clause-told : goal.returns-in-Err-clause-told
returns-in-Err-clause-told g c =
    subst (λ b. HasReported (IsPutIf b false c.args.line.now) (g.O.Sink.sunk c.args.out.now) (g.O.Sink.sunk c.write_out.new.out) true)
    (sym c.if-not-self.false)
    (subst (λ l. HasReported (IsPutIf true false l) (g.O.Sink.sunk c.args.out.now) (g.O.Sink.sunk c.write_out.new.out) true)
    c.as_str.ensures (reported_put _ _ _ _ c.in-Err.ensures))
