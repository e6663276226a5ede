use Rattle.std.proofs.Common.{◌≡◌, ◌++◌, take}
use Rattle.std.specs.List.{flat_map}
use Rattle.smk_choose.specs.Readings.{input_shapes}
use Rattle.smk_choose.proofs.readings.add_inputs.Given as goal

abbrev pub invariant-loop-item : goal.invariant-loop-item
invariant-loop-item l = l.found ≡ l.initial.found ++ flat_map input_shapes (take l.item-index l.items)
