use Rattle.std.proofs.Common.{length, subst, ◌<◌}
use Rattle.smk_record.proofs.Lists.{too_few}
use Rattle.smk_record.proofs.valid.has_each_stamp.Goals as goal

pub returns-in-None : goal.returns-in-None
returns-in-None c =
    too_few (λ item. item.paths) c.args.inputs.now c.loop-item.item-index c.item-item.result (length c.loop-item.rest.now) (length c.args.stamps.now) c.loop-item-test.true c.item-item.is c.loop-item.invariant.left
    (subst (λ ps. length c.loop-item.rest.now < length ps) c.as_slice.ensures c.in-None.ensures)
