use Rattle.std.proofs.Common.{◌++◌, map, ap, sym, ◌∙◌}
use Rattle.smk_world.specs.declared.recipe.Out.{Out}
use Rattle.smk_world.specs.declared.recipe.OutItem.{OutItem}
use Rattle.smk_record.proofs.Lists.{flat_more}
use Rattle.smk_drive_outcome.proofs.outcome.output_paths.Goals as goal

pub loop-item-preserved : goal.loop-item-preserved
loop-item-preserved c =
    c.in_ok-push_paths.ensures
    ∙ ap (λ outs. c.loop-item.found ++ map (λ (out : Out). out.path) outs) c.as_slice.ensures
    ∙ ap (λ ps. ps ++ map (λ (out : Out). out.path) c.item-item.result.outs) c.loop-item.invariant
    ∙ sym (flat_more (λ (item : OutItem). map (λ (out : Out). out.path) item.outs) c.args.outputs.now c.loop-item.item-index c.item-item.result c.loop-item-test.true c.item-item.is)
