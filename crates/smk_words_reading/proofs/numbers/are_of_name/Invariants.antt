use Rattle.std.proofs.Common.{◌≡◌, ◌||◌, drop}
use Rattle.std.specs.List.{list_all}
use Rattle.smk_words_reading.specs.Asks.{is_letter, is_digit}
use Rattle.smk_words_reading.proofs.numbers.are_of_name.Given as goal

abbrev pub invariant-loop-byte : goal.invariant-loop-byte
invariant-loop-byte l = list_all (λ b. is_letter b || is_digit b) l.bytes ≡ list_all (λ b. is_letter b || is_digit b) (drop l.byte-index l.bytes)
