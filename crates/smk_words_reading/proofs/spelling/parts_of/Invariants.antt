use Rattle.std.proofs.Common.{◌≡◌, map, drop}
use Rattle.std.specs.Prelude.{string_bytes}
use Rattle.smk_words_reading.specs.declared.spelling.Expected.TheVariants.{Word}
use Rattle.smk_words_reading.specs.Reading.{before, spelled}
use Rattle.smk_words_reading.proofs.spelling.parts_of.Given as goal

abbrev pub invariant-loop-word : goal.invariant-loop-word
invariant-loop-word l =
    spelled Word (map string_bytes l.words) ≡ before l.parts (spelled l.expected (map string_bytes (drop l.word-index l.words)))
