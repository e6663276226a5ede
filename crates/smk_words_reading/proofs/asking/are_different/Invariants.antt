use Rattle.std.proofs.Common.{◌≡◌, map, length}
use Rattle.smk_words_reading.specs.Asks.{name_of, are_different}
use Rattle.smk_words_reading.proofs.asking.are_different.Given as goal

abbrev pub invariant-loop-amount : goal.invariant-loop-amount
invariant-loop-amount l = are_different (map name_of l.amounts) ≡ are_different (map name_of l.rest)

abbrev pub decreases-loop-amount : goal.decreases-loop-amount
decreases-loop-amount l = length l.rest
