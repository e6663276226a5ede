use Rattle.std.proofs.Common.{length}
use denote.Shadow.{shadow}
use denote.Text.{Utf8}
use Rattle.smk_words_reading.proofs.Loops.{AreAll}
use Rattle.smk_words_reading.proofs.letters.read_letters.Given as goal

abbrev pub invariant-loop-flag : goal.invariant-loop-flag
invariant-loop-flag l = record { all : AreAll l.initial.parts l.parts l.text l.rest; utf8 : shadow (Utf8 l.rest) }

abbrev pub decreases-loop-flag : goal.decreases-loop-flag
decreases-loop-flag l = length l.rest
