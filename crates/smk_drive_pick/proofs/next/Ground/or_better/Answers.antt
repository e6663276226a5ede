use Rattle.std.proofs.Common.{sym, ◌∙◌}
use Rattle.smk_drive_pick.proofs.Full.{stays_out}
use Rattle.smk_drive_pick.proofs.next.Ground.or_better.Goals as goal

pub returns-then-is_out : goal.returns-then-is_out
returns-then-is_out c =
    sym
    (stays_out c.args.self.now c.args.room.now c.args.job.now c.args.best c.args.number c.args.rank (sym c.is_out.ensures ∙ c.if-is_out.true))

pub returns-then-is_passed_over : goal.returns-then-is_passed_over
returns-then-is_passed_over c = sym (c.is_passed_over.ensures c.if-is_passed_over.true c.args.self.now c.args.number c.args.rank)
