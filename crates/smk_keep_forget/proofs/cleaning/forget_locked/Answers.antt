use Rattle.std.proofs.Common.{sym, ◌∙◌}
use Rattle.smk_keep_forget.proofs.Around.{ended_broken, ended_closed, ended_unclosed, lines_put, lines_then_device, told_then_device}
use Rattle.smk_keep_forget.proofs.cleaning.forget_locked.Goals as goal

pub returns-then-is_device-clause-acted : goal.returns-then-is_device-clause-acted
returns-then-is_device-clause-acted g c = ended_broken g.W.Files.act c.args.paths.now _ _ c.forget_all-answer.result (sym c.is_device.ensures ∙ c.if-is_device.true) c.forget_all-answer.ensures.acted

pub returns-then-is_device-clause-put : goal.returns-then-is_device-clause-put
returns-then-is_device-clause-put g c = lines_put _ _ (g.O.Sink.sunk c.args.out.now) (g.O.Sink.sunk c.forget_all-answer.new.out) c.forget_all-answer.ensures.put

pub release-requires : goal.release-requires
release-requires g c = record { none_runs = c.forget_all-answer.ensures.acted.running ∙ c.requires.none_runs }

pub returns-in-Ok-clause-acted : goal.returns-in-Ok-clause-acted
returns-in-Ok-clause-acted g c =
    ended_closed g.W.Files.act c.args.paths.now _ _ _ c.forget_all-answer.result (sym c.is_device.ensures ∙ c.if-is_device.false) c.forget_all-answer.ensures.acted c.in-Ok.ensures

pub returns-in-Ok-clause-put : goal.returns-in-Ok-clause-put
returns-in-Ok-clause-put g c = lines_put _ _ (g.O.Sink.sunk c.args.out.now) (g.O.Sink.sunk c.forget_all-answer.new.out) c.forget_all-answer.ensures.put

pub returns-in-Err-clause-acted : goal.returns-in-Err-clause-acted
returns-in-Err-clause-acted g c =
    ended_unclosed g.W.Files.act c.args.paths.now _ _ _ c.forget_all-answer.result c.in-Err.field-0 (sym c.is_device.ensures ∙ c.if-is_device.false) c.forget_all-answer.ensures.acted c.in-Err.ensures

pub returns-in-Err-clause-told : goal.returns-in-Err-clause-told
returns-in-Err-clause-told g c = told_then_device c.forget_all-answer.result (g.W.Files.device c.args.work.now) (g.O.Sink.sunk c.args.out.now) (g.O.Sink.sunk c.forget_all-answer.new.out) c.args.paths.now c.forget_all-answer.ensures.told

pub returns-in-Err-clause-put : goal.returns-in-Err-clause-put
returns-in-Err-clause-put g c = lines_then_device _ (g.O.Sink.sunk c.args.out.now) (g.O.Sink.sunk c.forget_all-answer.new.out) c.forget_all-answer.ensures.put
