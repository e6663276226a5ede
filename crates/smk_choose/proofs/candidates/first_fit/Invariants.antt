use Rattle.std.proofs.Common.{◌≡◌, drop}
use Rattle.smk_choose.specs.Readings.{first_bound}
use Rattle.smk_choose.proofs.candidates.first_fit.Given as goal

abbrev pub invariant-loop-pattern : goal.invariant-loop-pattern
invariant-loop-pattern l = first_bound l.patterns l.path ≡ first_bound (drop l.pattern-index l.patterns) l.path
