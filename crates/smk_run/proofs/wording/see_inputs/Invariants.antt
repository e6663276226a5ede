use Rattle.std.proofs.Common.{◌≡◌, take, true}
use Rattle.std.specs.List.{list_all, flat_map}
use Rattle.smk_world.specs.declared.recipe.Item.{Item}
use Rattle.smk_world.specs.Trees.{is_path_text}
use Rattle.smk_run.proofs.wording.see_inputs.Given as goal

abbrev pub invariant-loop-item : goal.invariant-loop-item
invariant-loop-item l = list_all is_path_text (flat_map (λ (item : Item). item.paths) (take l.item-index l.inputs)) ≡ true
