use Rattle.std.proofs.Common.{◌+◌, length}
use Rattle.smk_choose.proofs.Kept.{Merges}
use Rattle.smk_choose.proofs.index.merged.Given as goal

abbrev pub invariant-numbers : goal.invariant-numbers
invariant-numbers l = Merges l.one l.other l.made l.left l.right

abbrev pub decreases-numbers : goal.decreases-numbers
decreases-numbers l = length l.left + length l.right
