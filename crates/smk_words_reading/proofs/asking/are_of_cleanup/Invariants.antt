use Rattle.std.proofs.Common.{◌≡◌, drop}
use Rattle.std.specs.List.{list_all}
use Rattle.smk_words_reading.specs.Asks.{is_of_cleanup}
use Rattle.smk_words_reading.proofs.asking.are_of_cleanup.Given as goal

abbrev pub invariant-loop-part : goal.invariant-loop-part
invariant-loop-part l = list_all is_of_cleanup l.parts ≡ list_all is_of_cleanup (drop l.part-index l.parts)
