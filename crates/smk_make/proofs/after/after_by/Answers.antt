use Rattle.std.proofs.Common.{subst, sym, get_or, arith}
use Rattle.smk_make.proofs.Dues.{AreAfterSoFar, none_after, after_next, all_after, duty_there}
use Rattle.smk_make.proofs.after.after_by.Goals as goal

pub loop-number-init : goal.loop-number-init
loop-number-init c = subst (AreAfterSoFar c.args.duties.now c.args.spoilt.now c.args.done 0 c.args.done) (sym c.new-after.ensures) (none_after c.args.duties.now c.args.spoilt.now c.args.done)

pub loop-number-preserved : goal.loop-number-preserved
loop-number-preserved c =
    after_next c.args.duties.now c.args.spoilt.now c.args.done c.loop-number.number c.loop-number.left c.loop-number.after c.push.new.self c.is_current.result (get_or c.args.duties.now c.loop-number.number _) c.loop-number.invariant
    (duty_there c.args.duties.now c.loop-number.number _ c.loop-number-test.true) c.is_current.ensures c.in_ok-push.ensures.ok c.done_after-left.result c.done_after-left.ensures

pub returns : goal.returns
returns c =
    all_after c.args.duties.now c.args.spoilt.now c.args.done c.loop-number.left c.loop-number.after
    (subst (λ n. AreAfterSoFar c.args.duties.now c.args.spoilt.now c.args.done n c.loop-number.left c.loop-number.after) (omega (arith, c.loop-number.auto.number-end, c.loop-number-test.false)) c.loop-number.invariant)
