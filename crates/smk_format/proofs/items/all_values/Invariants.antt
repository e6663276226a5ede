use Rattle.std.proofs.Common.{◌≡◌, take, map}
use Rattle.smk_pattern.specs.Searching.{now_of}
use Rattle.smk_format.specs.Fields.{all_values}
use Rattle.smk_format.proofs.items.all_values.Given as goal

abbrev pub invariant-loop-item : goal.invariant-loop-item
invariant-loop-item g l = now_of l.values.items ≡ all_values (map g.V.Valued.shape (take l.item-index l.items))
