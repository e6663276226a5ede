use Rattle.std.proofs.Common.{ap}
use Rattle.smk_plan_live.proofs.Learned.{still_learned, still_same}
use Rattle.smk_plan_live.proofs.learning.learn_unknown.Goals as goal

pub returns-in_err-learn : goal.returns-in_err-learn
returns-in_err-learn g c =
    still_same c.args.base.now c.args.forced.now c.args.own.now.items c.learn.new.own.items (ap (λ own. own.items) c.in_err-learn.ensures.err)

pub returns : goal.returns
returns g c = still_learned c.args.base.now c.args.forced.now c.args.own.now.items c.learn.new.own.items c.args.number c.in_ok-learn.ensures.ok
