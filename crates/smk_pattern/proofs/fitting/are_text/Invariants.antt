use denote.Shadow.{shadow}
use denote.Text.{Utf8}
use Rattle.std.proofs.Common.{◌≡◌, ◌↔◌, drop, []}
use Rattle.smk_pattern.specs.Fitting.{filled}
use Rattle.smk_pattern.specs.Pieces.{parts_of}
use Rattle.smk_pattern.proofs.fitting.are_text.Given as goal

abbrev pub invariant-loop-piece : goal.invariant-loop-piece
invariant-loop-piece l = shadow (Utf8 l.rest) × ((filled (parts_of (drop l.piece-index l.pieces)) [] ≡ l.rest) ↔ (filled (parts_of l.pieces) [] ≡ l.path))
