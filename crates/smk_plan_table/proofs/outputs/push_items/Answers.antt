use Rattle.std.proofs.Common.{map, ap}
use Rattle.smk_world.specs.declared.recipe.Out.{Out}
use Rattle.smk_world.specs.declared.recipe.OutItem.{OutItem}
use Rattle.smk_plan_table.specs.Parts.{shown}
use Rattle.smk_plan_table.proofs.Lists.{grown}
use Rattle.smk_plan_table.proofs.outputs.push_items.Goals as goal

pub loop-item-preserved : goal.loop-item-preserved
loop-item-preserved c =
    grown (λ (i : OutItem). map (λ (o : Out). o.path) i.outs) c.args.items.now c.loop-item.item-index c.item-item.result c.loop-item-test.true c.item-item.is
    (shown c.args.found.now.items) (shown c.loop-item.found.items) (shown c.push_outs.new.found.items) _ c.loop-item.invariant c.in_ok-push_outs.ensures
    (ap (map (λ (o : Out). o.path)) c.as_slice.ensures)
