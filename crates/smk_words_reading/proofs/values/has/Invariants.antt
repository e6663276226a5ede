use Rattle.std.proofs.Common.{◌≡◌, drop}
use Rattle.smk_words_reading.specs.Asks.{has}
use Rattle.smk_words_reading.proofs.values.has.Given as goal

abbrev pub invariant-loop-part : goal.invariant-loop-part
invariant-loop-part l = has l.flag l.parts ≡ has l.flag (drop l.part-index l.parts)
