use Rattle.smk_drive_step.proofs.Known.{none_at, one_at}
use Rattle.smk_drive_step.proofs.stamps.stamps_of.Goals as goal

pub loop-found-preserved : goal.loop-found-preserved
loop-found-preserved c =
    one_at c.args.made c.args.known.now c.loop-found.found-index _ c.stamp_for.result c.in-Some.stamp c.loop-found.stamps _ c.loop-found-test.true
    c.stamp_for.ensures c.in-Some.is c.in_ok-push-in-Some.ensures.ok c.loop-found.invariant

pub returns-in-None : goal.returns-in-None
returns-in-None c = none_at c.args.made c.args.known.now c.loop-found.found-index _ c.stamp_for.result c.loop-found-test.true c.stamp_for.ensures c.in-None.is
