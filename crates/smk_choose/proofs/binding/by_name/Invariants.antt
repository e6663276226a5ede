use Rattle.std.proofs.Common.{◌≡◌, length}
use Rattle.smk_choose.proofs.Named.{Done}
use Rattle.smk_choose.proofs.binding.by_name.Given as goal

abbrev pub invariant-pairs : goal.invariant-pairs
invariant-pairs l = Done l.initial.left l.left l.pairs.items

abbrev pub decreases-pairs : goal.decreases-pairs
decreases-pairs l = length l.left

abbrev pub invariant-loop-pair : goal.invariant-loop-pair
invariant-loop-pair l = l.made ≡ l.yielded
