use Rattle.std.proofs.Common.{take, true, ◌≡◌, subst}
use Rattle.std.specs.List.{list_all, flat_map}
use Rattle.smk_world.specs.declared.recipe.Item.{Item}
use Rattle.smk_world.specs.Trees.{is_path_text}
use Rattle.smk_record.proofs.Lists.{paths_join, flat_more}
use Rattle.smk_run.proofs.wording.see_inputs.Goals as goal

pub loop-item-preserved : goal.loop-item-preserved
loop-item-preserved c =
    let done = flat_map (λ (item : Item). item.paths) (take c.loop-item.item-index c.args.inputs.now) in
    let e = flat_more (λ (item : Item). item.paths) c.args.inputs.now c.loop-item.item-index c.item-item.result c.loop-item-test.true c.item-item.is in
    paths_join done c.item-item.result.paths _ e c.loop-item.invariant (subst (λ ps. list_all is_path_text ps ≡ true) c.as_slice.ensures c.see_paths.ensures)
