use Rattle.std.proofs.Common.{◌≡◌, take}
use Rattle.std.specs.List.{flat_map}
use Rattle.smk_world.specs.declared.recipe.OutItem.{OutItem}
use Rattle.smk_plan_facts.specs.Telling.{directory_at}
use Rattle.smk_plan_facts.proofs.directories.directories_in.Given as goal

abbrev pub invariant-loop-item : goal.invariant-loop-item
invariant-loop-item g l = l.found ≡ flat_map (λ (item : OutItem). flat_map (directory_at (g.T.Told.known l.told) (g.T.Told.seen l.told)) item.outs) (take l.item-index l.outputs)
