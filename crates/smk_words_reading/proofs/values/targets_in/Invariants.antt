use Rattle.std.proofs.Common.{◌≡◌, ◌++◌, drop}
use Rattle.smk_words_reading.specs.Asks.{targets_in}
use Rattle.smk_words_reading.proofs.values.targets_in.Given as goal

abbrev pub invariant-loop-part : goal.invariant-loop-part
invariant-loop-part l = l.targets ++ targets_in (drop l.part-index l.parts) ≡ targets_in l.parts
