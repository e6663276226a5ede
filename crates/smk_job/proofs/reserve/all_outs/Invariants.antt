use Rattle.std.proofs.Common.{◌≡◌, take}
use Rattle.std.specs.List.{flat_map}
use Rattle.smk_world.specs.declared.recipe.OutItem.{OutItem}
use Rattle.smk_job.proofs.reserve.all_outs.Given as goal

abbrev pub invariant-loop-item : goal.invariant-loop-item
invariant-loop-item l = l.outs ≡ flat_map (λ (item : OutItem). item.outs) (take l.item-index l.outputs)
