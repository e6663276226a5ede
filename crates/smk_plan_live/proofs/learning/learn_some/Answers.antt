use Rattle.smk_plan_live.proofs.Learned.{still_more}
use Rattle.smk_plan_live.proofs.learning.learn_some.Goals as goal

pub returns-in_err-learn_unknown : goal.returns-in_err-learn_unknown
returns-in_err-learn_unknown g c =
    still_more c.args.base.now c.args.forced.now c.args.own.now.items c.loop-number.own.items c.learn_unknown.new.own.items c.loop-number.invariant
    c.learn_unknown.ensures

pub loop-number-preserved : goal.loop-number-preserved
loop-number-preserved g c =
    still_more c.args.base.now c.args.forced.now c.args.own.now.items c.loop-number.own.items c.learn_unknown.new.own.items c.loop-number.invariant
    c.learn_unknown.ensures
