use Rattle.smk_make.proofs.Dues.{AreAfterSoFar}
use Rattle.smk_make.proofs.after.after_by.Given as goal

abbrev pub invariant-loop-number : goal.invariant-loop-number
invariant-loop-number l = AreAfterSoFar l.duties l.spoilt l.done l.number l.left l.after
