use Rattle.std.proofs.Common.{map, take, true, ◌≡◌, subst}
use Rattle.std.specs.List.{list_all, flat_map}
use Rattle.smk_world.specs.Trees.{is_path_text}
use Rattle.smk_record.proofs.Lists.{paths_join, flat_more}
use Rattle.smk_run.proofs.stamps.see_outputs.Goals as goal

pub loop-item-preserved : goal.loop-item-preserved
loop-item-preserved c =
    let done = flat_map (λ item. map (λ out. out.path) item.outs) (take c.loop-item.item-index c.args.outputs.now) in
    let more = map (λ out. out.path) c.item-item.result.outs in
    let e = flat_more (λ item. map (λ out. out.path) item.outs) c.args.outputs.now c.loop-item.item-index c.item-item.result c.loop-item-test.true c.item-item.is in
    paths_join done more _ e c.loop-item.invariant (subst (λ outs. list_all is_path_text (map (λ out. out.path) outs) ≡ true) c.as_slice.ensures c.see_outs.ensures)
