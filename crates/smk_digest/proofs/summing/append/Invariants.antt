use Rattle.std.proofs.Common.{◌≡◌, ◌++◌, take}
use Rattle.smk_digest.proofs.summing.append.Given as goal

abbrev pub invariant-loop-sum : goal.invariant-loop-sum
invariant-loop-sum l = l.found ≡ l.initial.found ++ take l.sum-index l.more
