use Rattle.std.proofs.Common.{◌≡◌, take}
use Rattle.std.specs.List.{flat_map}
use Rattle.smk_world.specs.declared.recipe.Item.{Item}
use Rattle.smk_run.proofs.stamps.input_paths.Given as goal

abbrev pub invariant-loop-item : goal.invariant-loop-item
invariant-loop-item l = l.found ≡ flat_map (λ (item : Item). item.paths) (take l.item-index l.inputs)
