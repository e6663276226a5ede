use Rattle.std.proofs.Common.{Ok, Err, None, refl, sym, subst, true, false}
use Rattle.smk_report.specs.Lines.{Named}
use Rattle.smk_run.specs.declared.stop.Stop.TheVariants.{Output}
use Rattle.smk_run.specs.Turns.{Closed, HasGoneOn, left_stop}
use Rattle.smk_run.specs.Reports.{IsReport, HasReported, HasTurned, course_text, is_output_stop}
use Rattle.smk_run.proofs.Texts.{untold_text, started_text, ended_text, reported_put}
use Rattle.smk_run.proofs.Turning.{attended, left_answer, untold_answer, cut_answer, cut_whole}
use Rattle.smk_run.proofs.one.attend.Goals as goal

pub returns-in-Err-clause-run : goal.returns-in-Err-clause-run
returns-in-Err-clause-run g c =
    let name : Named = record { rule = c.args.rule.now; path = c.args.path.now } in
    let closed = c.close-closed.result in
    attended g.W.Files.act c.args.going name closed closed (Err Output) _ _ _ _ refl (untold_answer closed) c.close-closed.ensures.closed c.close-closed.ensures.given
    (untold_text name closed c.args.line.now _ _ c.requires.line (reported_put _ _ _ _ c.in-Err.ensures))

pub returns-in-Err-closed-clause-run : goal.returns-in-Err-closed-clause-run
returns-in-Err-closed-clause-run g c =
    let name : Named = record { rule = c.args.rule.now; path = c.args.path.now } in
    let f = c.in-Err-closed.fault in
    subst (λ stop. HasTurned g.W.Files.act (HasGoneOn c.args.going) name None (Err stop) (g.W.Files.device c.args.work.now) (g.W.Files.device c.close-closed.new.work)
    (g.O.Sink.sunk c.args.out.now) (g.O.Sink.sunk c.write_out-told.new.out)) (sym c.left.ensures.value)
    (attended g.W.Files.act c.args.going name c.close-closed.result (Err f) (Err (left_stop f)) _ _ _ _ c.in-Err-closed.is (left_answer f) c.close-closed.ensures.closed c.close-closed.ensures.given
    (started_text name f c.args.line.now _ _ c.requires.line (reported_put _ _ _ _ c.in-Ok.ensures)))

pub returns-in-Ok-tell_end-clause-run : goal.returns-in-Ok-tell_end-clause-run
returns-in-Ok-tell_end-clause-run g c =
    let name : Named = record { rule = c.args.rule.now; path = c.args.path.now } in
    let ending = c.in-Ok-closed.ending in
    attended g.W.Files.act c.args.going name c.close-closed.result (Ok ending) (Ok ending) _ _ _ _ c.in-Ok-closed.is (refl, refl) c.close-closed.ensures.closed c.close-closed.ensures.given
    (ended_text name ending true c.args.line.now _ _ _ false c.requires.line (reported_put _ _ _ _ c.in-Ok.ensures) c.in-Ok-tell_end.ensures.told)

pub returns-in-Err-tell_end-clause-run : goal.returns-in-Err-tell_end-clause-run
returns-in-Err-tell_end-clause-run g c =
    let name : Named = record { rule = c.args.rule.now; path = c.args.path.now } in
    let ending = c.in-Ok-closed.ending in
    let stop = c.in-Err-tell_end.stop in
    let why = c.in-Err-tell_end.ensures.faults in
    attended g.W.Files.act c.args.going name c.close-closed.result (Ok ending) (Err stop) _ _ _ _ c.in-Ok-closed.is (cut_answer ending stop why) c.close-closed.ensures.closed c.close-closed.ensures.given
    (subst (λ whole. HasReported (IsReport whole (course_text name (Closed ending))) (g.O.Sink.sunk c.args.out.now) (g.O.Sink.sunk c.tell_end.new.out) (is_output_stop stop)) (sym (cut_whole stop why))
    (ended_text name ending false c.args.line.now _ _ _ (is_output_stop stop) c.requires.line (reported_put _ _ _ _ c.in-Ok.ensures) c.in-Err-tell_end.ensures.told))
