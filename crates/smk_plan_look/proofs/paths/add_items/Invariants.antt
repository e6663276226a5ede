use Rattle.std.proofs.Common.{take}
use Rattle.std.specs.List.{flat_map}
use Rattle.smk_plan_look.specs.Gathering.{HasAdded, item_paths}
use Rattle.smk_plan_look.proofs.paths.add_items.Given as goal

abbrev pub invariant-loop-item : goal.invariant-loop-item
invariant-loop-item l = HasAdded l.fn.paths l.paths (flat_map item_paths (take l.item-index l.items))
