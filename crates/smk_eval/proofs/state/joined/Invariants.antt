use Rattle.std.proofs.Common.{◌≡◌, ◌++◌, take}
use Rattle.smk_eval.proofs.state.joined.Given as goal

abbrev pub invariant-loop-pair : goal.invariant-loop-pair
invariant-loop-pair l = l.all ≡ l.fn.list ++ take l.pair-index l.more
