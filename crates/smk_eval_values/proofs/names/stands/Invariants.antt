use Rattle.std.proofs.Common.{◌≡◌, drop}
use Rattle.smk_eval_values.specs.Letters.{stands, letters_of}
use Rattle.smk_eval_values.proofs.names.stands.Given as goal

abbrev pub invariant-loop-piece : goal.invariant-loop-piece
invariant-loop-piece l = stands (letters_of (drop l.piece-index l.pieces)) l.name ≡ stands (letters_of l.pieces) l.name
