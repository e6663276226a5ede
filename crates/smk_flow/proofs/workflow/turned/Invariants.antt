use Rattle.std.proofs.Common.{◌≡◌, ◌++◌, length}
use Rattle.std.specs.Prelude.{reverse}
use Rattle.smk_flow.proofs.workflow.turned.Given as goal

abbrev pub invariant-items : goal.invariant-items
invariant-items g l = l.made ++ reverse l.left ≡ reverse l.fn.list

abbrev pub decreases-items : goal.decreases-items
decreases-items g l = length l.left
