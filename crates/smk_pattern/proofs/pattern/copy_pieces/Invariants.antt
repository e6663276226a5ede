use Rattle.std.proofs.Common.{◌≡◌, take}
use Rattle.smk_pattern.specs.Pieces.{parts_of}
use Rattle.smk_pattern.proofs.pattern.copy_pieces.Given as goal

abbrev pub invariant-loop-piece : goal.invariant-loop-piece
invariant-loop-piece l = parts_of l.made ≡ parts_of (take l.piece-index l.pieces)
