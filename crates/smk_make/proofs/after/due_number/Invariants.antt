use Rattle.smk_make.proofs.Dues.{IsSeeking}
use Rattle.smk_make.proofs.after.due_number.Given as goal

abbrev pub invariant-loop-number : goal.invariant-loop-number
invariant-loop-number l = IsSeeking l.duties l.index l.number l.left
