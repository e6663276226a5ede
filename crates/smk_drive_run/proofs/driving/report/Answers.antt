use Rattle.smk_drive_run.proofs.Ends.{untold_by}
use Rattle.smk_drive_run.proofs.driving.report.Goals as goal

pub returns-in-Err : goal.returns-in-Err
returns-in-Err g c = untold_by c.args.settings.now.targets c.args.live.now c.args.tally.now (g.O.Sink.sunk c.args.out.now)
