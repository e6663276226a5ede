use Rattle.std.proofs.Common.{◌≡◌, take, string_bytes}
use Rattle.smk_pattern.specs.Pieces.{parts_of}
use Rattle.smk_pattern.specs.Fitting.{filled}
use Rattle.smk_pattern.specs.Searching.{now_of}
use Rattle.smk_pattern.proofs.filling.join.Given as goal

abbrev pub invariant-loop-piece : goal.invariant-loop-piece
invariant-loop-piece l = string_bytes l.text ≡ filled (parts_of (take l.piece-index l.pieces)) (now_of l.values)
