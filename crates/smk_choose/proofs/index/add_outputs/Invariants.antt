use Rattle.std.proofs.Common.{take}
use Rattle.smk_choose.specs.Index.{may_fit, HasTaken}
use Rattle.smk_choose.proofs.index.add_outputs.Given as goal

abbrev pub invariant-loop-pattern : goal.invariant-loop-pattern
invariant-loop-pattern l = HasTaken l.number (may_fit (take l.pattern-index l.patterns)) l.initial.index l.index
