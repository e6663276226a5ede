use Rattle.std.proofs.Common.{◌≤◌, List, ℕ, length, take}
use Rattle.smk_pattern.specs.Fitting.{AllSuit, filled}
use Rattle.smk_pattern.specs.Pieces.{parts_of, limits_of}
use Rattle.smk_pattern.proofs.fitting.least_length.Given as goal

abbrev pub invariant-loop-piece : goal.invariant-loop-piece
invariant-loop-piece l = (values : List (List ℕ)) → AllSuit (limits_of l.wildcards) values → l.least ≤ length (filled (parts_of (take l.piece-index l.pieces)) values)
