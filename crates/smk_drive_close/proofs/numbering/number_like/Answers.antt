use Rattle.std.proofs.Common.{sym, ◌∙◌}
use Rattle.smk_laws_turns.specs.Moving.{number_like}
use Rattle.smk_drive_close.proofs.Moved.{like_here, like_later}
use Rattle.smk_drive_close.proofs.numbering.number_like.Goals as goal

pub returns-then-is_like : goal.returns-then-is_like
returns-then-is_like c =
    like_here c.args.jobs.now c.loop-number.number c.index-jobs-number.result c.args.job.now (number_like c.args.jobs.now c.args.job.now) c.loop-number-test.true
    c.index-jobs-number.is (sym c.is_like.ensures ∙ c.if-is_like.true) c.loop-number.invariant

pub loop-number-preserved : goal.loop-number-preserved
loop-number-preserved c =
    like_later c.args.jobs.now c.loop-number.number c.index-jobs-number.result c.args.job.now (number_like c.args.jobs.now c.args.job.now) c.loop-number-test.true
    c.index-jobs-number.is (sym c.is_like.ensures ∙ c.if-is_like.false) c.loop-number.invariant
