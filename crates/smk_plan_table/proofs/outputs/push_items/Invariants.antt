use Rattle.std.proofs.Common.{◌≡◌, ◌++◌, take}
use Rattle.smk_plan_table.specs.Parts.{shown, paths_in}
use Rattle.smk_plan_table.proofs.outputs.push_items.Given as goal

abbrev pub invariant-loop-item : goal.invariant-loop-item
invariant-loop-item l = shown l.found.items ≡ shown l.initial.found.items ++ paths_in (take l.item-index l.items)
