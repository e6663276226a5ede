use Rattle.std.proofs.Common.{◌∙◌, drop, sym}
use Rattle.smk_drive_pick.specs.Grounds.{may_begin_by}
use Rattle.smk_drive_pick.proofs.Better.{top_stays, within_left}
use Rattle.smk_drive_pick.proofs.next.best_of.Goals as goal

pub returns-then-is_best : goal.returns-then-is_best
returns-then-is_best c =
    let n = c.loop-number.number in
    let jobs = c.args.jobs.now in
    sym
    (top_stays (may_begin_by c.args.told.now c.args.room.now) n c.loop-number.best c.args.top (c.is_best.ensures c.if-is_best.true) (drop n jobs) (drop n c.args.told.now.hands.ranks.now)
    (within_left c.args.top jobs n c.requires))
    ∙ c.loop-number.invariant
