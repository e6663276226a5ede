use Rattle.smk_plan_live.proofs.Learned.{still_learned, still_more}
use Rattle.smk_plan_live.proofs.learning.learn_with.Goals as goal

pub returns : goal.returns
returns g c =
    still_more c.args.base.now c.args.forced.now c.args.own.now.items c.learn.new.own.items c.learn_some.new.own.items
    (still_learned c.args.base.now c.args.forced.now c.args.own.now.items c.learn.new.own.items c.args.number c.in_ok-learn.ensures.ok) c.learn_some.ensures
