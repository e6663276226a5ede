use Rattle.std.proofs.Common.{◌≡◌, ◌++◌, take}
use Rattle.smk_eval_values.proofs.evaluating.with_items.Given as goal

abbrev pub invariant-loop-item : goal.invariant-loop-item
invariant-loop-item l = l.made ≡ l.fn.made ++ take l.item-index l.item-items
