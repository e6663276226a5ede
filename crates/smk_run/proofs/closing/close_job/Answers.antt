use Rattle.smk_run.proofs.Closes.{finished, abandoned, not_abandoned}
use Rattle.smk_run.proofs.closing.close_job.Goals as goal

pub finish-closed-requires : goal.finish-closed-requires
finish-closed-requires g c = record { room = c.requires.room }

pub returns-then-status-eq0 : goal.returns-then-status-eq0
returns-then-status-eq0 g c = finished g.W.Files.act c.args.going c.finish-closed.result c.ending_of.result c.args.status _ _ c.if-status-eq0.true c.ending_of.ensures c.finish-closed.ensures.acted

pub abandon-requires : goal.abandon-requires
abandon-requires g c = record { room = c.requires.room }

pub returns-in-Ok : goal.returns-in-Ok
returns-in-Ok g c = abandoned g.W.Files.act c.args.going c.args.status _ _ c.if-status-eq0.false c.in-Ok.ensures

pub returns-in-Err : goal.returns-in-Err
returns-in-Err g c = not_abandoned g.W.Files.act c.args.going c.args.status _ _ c.if-status-eq0.false c.in-Err.ensures
