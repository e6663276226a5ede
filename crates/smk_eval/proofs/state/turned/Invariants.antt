use Rattle.std.proofs.Common.{◌≡◌, ◌++◌, length}
use Rattle.std.specs.Prelude.{reverse}
use Rattle.smk_eval.specs.Marking.{marked_if}
use Rattle.smk_eval.proofs.state.turned.Given as goal

abbrev pub invariant-items : goal.invariant-items
invariant-items l = l.made ++ marked_if l.marks l.file (reverse l.left) ≡ marked_if l.fn.marks l.file (reverse l.fn.list)

abbrev pub decreases-items : goal.decreases-items
decreases-items l = length l.left
