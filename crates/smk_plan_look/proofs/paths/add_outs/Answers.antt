use Rattle.smk_plan_look.proofs.Held.{added_nothing, out_next, outs_all}
use Rattle.smk_plan_look.proofs.paths.add_outs.Goals as goal

pub loop-out-init : goal.loop-out-init
loop-out-init c = added_nothing _

pub loop-out-preserved : goal.loop-out-preserved
loop-out-preserved c = out_next c.args.outs.now c.loop-out.out-index c.out-item.result c.args.paths.now c.loop-out.paths _ c.loop-out-test.true c.out-item.is c.loop-out.invariant c.in_ok-add.ensures

pub returns : goal.returns
returns c = outs_all c.args.outs.now c.loop-out.out-index c.args.paths.now c.loop-out.paths c.loop-out-test.false c.loop-out.invariant
