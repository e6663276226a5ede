use Rattle.std.proofs.Common.{◌≡◌, None, map, drop}
use Rattle.smk_core.specs.Lines.{least, best_of}
use Rattle.smk_core.proofs.ready.best_of.Given as goal

abbrev pub invariant-loop-line : goal.invariant-loop-line
invariant-loop-line l = best_of l.asks l.room None (map least l.lines) ≡ best_of l.asks l.room l.best (map least (drop l.line-index l.lines))
