use Rattle.std.proofs.Common.{subst}
use Rattle.smk_plan_look.specs.Gathering.{HasAdded, paths_of, item_paths}
use Rattle.smk_plan_look.proofs.Held.{added_nothing, added_next, added_all}
use Rattle.smk_plan_look.proofs.paths.add_items.Goals as goal

pub loop-item-init : goal.loop-item-init
loop-item-init c = added_nothing _

pub loop-item-preserved : goal.loop-item-preserved
loop-item-preserved c =
    added_next item_paths c.args.items.now c.loop-item.item-index c.item-item.result c.args.paths.now c.loop-item.paths _ c.loop-item-test.true c.item-item.is c.loop-item.invariant (subst (λ os. HasAdded c.loop-item.paths c.add_outs.new.paths (paths_of os)) c.as_slice.ensures c.in_ok-add_outs.ensures)

pub returns : goal.returns
returns c = added_all item_paths c.args.items.now c.loop-item.item-index c.args.paths.now c.loop-item.paths c.loop-item-test.false c.loop-item.invariant
