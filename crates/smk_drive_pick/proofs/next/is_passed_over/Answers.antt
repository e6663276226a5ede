use Rattle.std.proofs.Common.{◌∙◌, sym}
use Rattle.smk_drive_pick.specs.Grounds.{may_begin_by}
use Rattle.smk_drive_pick.proofs.Full.{full_for_one, stays_full}
use Rattle.smk_drive_pick.proofs.next.is_passed_over.Goals as goal

pub returns-then-is_no_better : goal.returns-then-is_no_better
returns-then-is_no_better c = λ h told number rank. c.is_no_better.ensures c.if-is_no_better.true (may_begin_by told c.args.room.now number) number rank

pub returns : goal.returns
returns c = λ h told number rank.
    stays_full told c.args.room.now c.args.job.now c.args.best number rank (full_for_one c.args.room.now c.args.job.now (sym c.is_full.ensures ∙ h))
