use Rattle.std.proofs.Common.{◌≡◌, take, string_bytes}
use Rattle.smk_eval_values.specs.Letters.{filled, letters_of}
use Rattle.smk_eval_values.proofs.filling.fill.Given as goal

abbrev pub invariant-loop-piece : goal.invariant-loop-piece
invariant-loop-piece l = string_bytes l.text ≡ filled l.bound (letters_of (take l.piece-index l.pieces))
