use Rattle.std.proofs.Common.{◌≡◌, ◌++◌, length}
use denote.Shadow.{shadow}
use denote.Text.{Utf8}
use Rattle.smk_eval_values.specs.Letters.{letters, letters_of}
use Rattle.smk_eval_values.proofs.reading.read.Given as goal

abbrev pub invariant-reading : goal.invariant-reading
invariant-reading l = record { so_far : letters_of l.pieces ++ letters l.rest ≡ letters l.pattern; utf8 : shadow (Utf8 l.rest) }

abbrev pub decreases-reading : goal.decreases-reading
decreases-reading l = length l.rest
