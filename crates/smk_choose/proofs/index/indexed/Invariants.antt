use Rattle.smk_choose.proofs.Kept.{AreIndexedBelow}
use Rattle.smk_choose.proofs.index.indexed.Given as goal

abbrev pub invariant-loop-number : goal.invariant-loop-number
invariant-loop-number l = AreIndexedBelow l.rules l.number l.index
