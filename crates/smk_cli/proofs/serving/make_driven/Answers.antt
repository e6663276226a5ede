use Rattle.std.proofs.Common.{inl, refl, Ok, Err}
use Rattle.smk_cli_calls.specs.Serving.{IsRefusedPlan, IsServed, IsThat}
use Rattle.smk_cli_calls.proofs.Went.{no_settings}
use Rattle.smk_cli_calls.proofs.Driving.{calm_end, calm_fault, drove_end, went_driven}
use Rattle.smk_cli.proofs.serving.make_driven.Goals as goal

pub returns-in_default-clause-went : goal.returns-in_default-clause-went
returns-in_default-clause-went g c = λ w at read reads.
    no_settings g.W.Files.act c.args.words.now (IsRefusedPlan read c.args.asked.now c.args.words.now w) (IsThat c.args.asked.now)
    (IsServed read c.args.asked.now c.args.words.now w) _ _

pub returns-in-Err-clause-ended : goal.returns-in-Err-clause-ended
returns-in-Err-clause-ended g c =
    drove_end g.W.Files.act c.args.asked.now.flow c.in-Ok.settings (Err c.in-Err.fault) (Err c.in-Err.fault) (g.W.Files.device c.args.work.now)
    (g.W.Files.device c.drive.new.work) (g.O.Sink.sunk c.args.out.now) (g.O.Sink.sunk c.drive.new.out) (calm_fault c.in-Err.fault) c.in-Err.ensures

pub returns-in-Err-clause-went : goal.returns-in-Err-clause-went
returns-in-Err-clause-went g c = λ w at read reads.
    went_driven g.W.Files.act c.args.words.now (Err c.in-Err.fault) (IsRefusedPlan read c.args.asked.now c.args.words.now w)
    (IsServed read c.args.asked.now c.args.words.now w) c.args.asked.now c.in-Ok.settings (Err c.in-Err.fault) (g.W.Files.device c.args.work.now)
    (g.W.Files.device c.drive.new.work) (g.O.Sink.sunk c.args.out.now) (g.O.Sink.sunk c.drive.new.out) c.requires.apart c.in-Ok.ensures (inl refl)
    c.in-Err.ensures

pub returns-clause-ended : goal.returns-clause-ended
returns-clause-ended g c =
    drove_end g.W.Files.act c.args.asked.now.flow c.in-Ok.settings (Ok c.in-Ok-drive.end) c.verdict.result (g.W.Files.device c.args.work.now)
    (g.W.Files.device c.drive.new.work) (g.O.Sink.sunk c.args.out.now) (g.O.Sink.sunk c.drive.new.out)
    (calm_end c.in-Ok-drive.end c.verdict.result c.verdict.ensures.calm) c.in-Ok-drive.ensures

pub returns-clause-went : goal.returns-clause-went
returns-clause-went g c = λ w at read reads.
    went_driven g.W.Files.act c.args.words.now c.verdict.result (IsRefusedPlan read c.args.asked.now c.args.words.now w)
    (IsServed read c.args.asked.now c.args.words.now w) c.args.asked.now c.in-Ok.settings (Ok c.in-Ok-drive.end) (g.W.Files.device c.args.work.now)
    (g.W.Files.device c.drive.new.work) (g.O.Sink.sunk c.args.out.now) (g.O.Sink.sunk c.drive.new.out) c.requires.apart c.in-Ok.ensures
    c.verdict.ensures.is c.in-Ok-drive.ensures
