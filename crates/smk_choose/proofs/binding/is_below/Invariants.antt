use Rattle.std.proofs.Common.{◌≡◌, length}
use Rattle.smk_pattern.specs.Reading.{is_below}
use Rattle.smk_choose.proofs.binding.is_below.Given as goal

abbrev pub invariant-loop-left : goal.invariant-loop-left
invariant-loop-left l = is_below l.a l.b ≡ is_below l.left l.right

abbrev pub decreases-loop-left : goal.decreases-loop-left
decreases-loop-left l = length l.left
