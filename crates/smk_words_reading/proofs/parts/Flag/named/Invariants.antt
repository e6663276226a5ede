use Rattle.std.proofs.Common.{◌≡◌, find, drop, bytes_eq}
use Rattle.smk_words_reading.specs.Words.{flag_word}
use Rattle.smk_words_reading.specs.Reading.{flag_named}
use Rattle.smk_words_reading.proofs.parts.Flag.named.Given as goal

abbrev pub invariant-loop-flag : goal.invariant-loop-flag
invariant-loop-flag l = flag_named l.word ≡ find (λ f. bytes_eq (flag_word f) l.word) (drop l.flag-index l.flag-items)
