use Rattle.std.proofs.Common.{◌≡◌, ◌++◌, map, take}
use Rattle.smk_choose.specs.Readings.{filled_by}
use Rattle.smk_choose.proofs.finder.add_filled.Given as goal

abbrev pub invariant-loop-pattern : goal.invariant-loop-pattern
invariant-loop-pattern l = l.found ≡ l.initial.found ++ map (filled_by l.binding) (take l.pattern-index l.patterns)
