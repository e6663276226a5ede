use Rattle.std.proofs.Common.{◌≡◌, map, take}
use Rattle.std.specs.List.{flat_map}
use Rattle.smk_world.specs.declared.recipe.OutItem.{OutItem}
use Rattle.smk_plan_live.specs.Sites.{out_path}
use Rattle.rows_plans.proofs.paths_of.Given as goal

abbrev pub invariant-loop-item : goal.invariant-loop-item
invariant-loop-item l = l.paths ≡ flat_map (λ (item : OutItem). map out_path item.outs) (take l.item-index l.items)
