use Rattle.std.proofs.Common.{◌≡◌, ◌++◌, Some, length, map, reverse}
use Rattle.smk_plan_live.proofs.closing.row_of.Given as goal

abbrev pub decreases-elements : goal.decreases-elements
decreases-elements g l = length l.left

abbrev pub invariant-elements : goal.invariant-elements
invariant-elements g l = l.found.items ++ reverse (map Some l.left) ≡ reverse (map Some l.fn.elements)
