use Rattle.std.proofs.Common.{◌≡◌, map, take}
use Rattle.std.specs.List.{flat_map}
use Rattle.smk_world.specs.declared.recipe.OutItem.{OutItem}
use Rattle.smk_plan_facts.specs.Telling.{marked_at}
use Rattle.smk_plan_facts.proofs.judged.marks_of.Given as goal

abbrev pub invariant-loop-item : goal.invariant-loop-item
invariant-loop-item g l = l.marked ≡ flat_map (λ (item : OutItem). map (marked_at (g.T.Told.known l.told)) item.outs) (take l.item-index l.outputs)
