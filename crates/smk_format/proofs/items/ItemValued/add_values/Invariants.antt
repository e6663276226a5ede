use Rattle.std.proofs.Common.{◌≡◌, ◌++◌, take}
use Rattle.smk_pattern.specs.Searching.{now_of}
use Rattle.smk_format.proofs.items.ItemValued.add_values.Given as goal

abbrev pub invariant-loop-path : goal.invariant-loop-path
invariant-loop-path l = now_of l.values.items ≡ now_of l.initial.values.items ++ take l.path-index l.path-items
