use Rattle.std.proofs.Common.{◌≡◌, map, drop}
use Rattle.smk_words_reading.specs.Asks.{name_of}
use Rattle.smk_words_reading.specs.Asking.{is_named}
use Rattle.smk_words_reading.proofs.asking.is_named.Given as goal

abbrev pub invariant-loop-amount : goal.invariant-loop-amount
invariant-loop-amount l = is_named l.name (map name_of l.amounts) ≡ is_named l.name (map name_of (drop l.amount-index l.amounts))
