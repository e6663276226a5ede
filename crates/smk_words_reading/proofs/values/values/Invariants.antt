use Rattle.std.proofs.Common.{◌≡◌, ◌++◌, map, drop}
use Rattle.smk_words_reading.specs.Asks.{values}
use Rattle.smk_words_reading.proofs.values.values.Given as goal

abbrev pub invariant-loop-part : goal.invariant-loop-part
invariant-loop-part l = map (λ v. v.now) l.found.items ++ values l.setting (drop l.part-index l.parts) ≡ values l.setting l.parts
