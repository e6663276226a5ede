use Rattle.std.proofs.Common.{◌≡◌, ◌++◌, take}
use Rattle.smk_pattern.specs.Searching.{now_of}
use Rattle.smk_format.proofs.items.ValuesValued.add_values.Given as goal

abbrev pub invariant-loop-value : goal.invariant-loop-value
invariant-loop-value l = now_of l.values.items ≡ now_of l.initial.values.items ++ take l.value-index l.value-items
