use Rattle.smk_choose.proofs.Kept.{AreFoldersBelow}
use Rattle.smk_choose.proofs.index.folders_of.Given as goal

abbrev pub invariant-loop-number : goal.invariant-loop-number
invariant-loop-number l = AreFoldersBelow l.readings l.number l.numbers
