use Rattle.std.proofs.Common.{◌≡◌, find, drop, bytes_eq}
use Rattle.smk_words_reading.specs.Words.{setting_word}
use Rattle.smk_words_reading.specs.Reading.{setting_named}
use Rattle.smk_words_reading.proofs.parts.Setting.named.Given as goal

abbrev pub invariant-loop-setting : goal.invariant-loop-setting
invariant-loop-setting l = setting_named l.word ≡ find (λ f. bytes_eq (setting_word f) l.word) (drop l.setting-index l.setting-items)
