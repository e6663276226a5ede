use Rattle.std.proofs.Common.{◌≡◌, ◌++◌, take}
use Rattle.smk_eval_values.proofs.sums.joined_lists.Given as goal

abbrev pub invariant-loop-text : goal.invariant-loop-text
invariant-loop-text l = l.texts ≡ l.fn.left ++ take l.text-index l.text-items
