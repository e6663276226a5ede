use Rattle.std.proofs.Common.{◌≡◌, drop}
use Rattle.smk_eval_values.specs.Letters.{letters_of}
use Rattle.smk_eval_values.specs.Expanding.{unknown}
use Rattle.smk_eval_values.proofs.names.unknown.Given as goal

abbrev pub invariant-loop-piece : goal.invariant-loop-piece
invariant-loop-piece l = unknown l.choices (letters_of (drop l.piece-index l.pieces)) ≡ unknown l.choices (letters_of l.pieces)
