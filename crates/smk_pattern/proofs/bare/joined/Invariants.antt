use Rattle.std.proofs.Common.{◌≡◌, take, string_bytes}
use Rattle.std.specs.List.{flat_map}
use Rattle.smk_pattern.specs.Bare.{bare_piece}
use Rattle.smk_pattern.specs.Splitting.{all_written}
use Rattle.smk_pattern.proofs.bare.joined.Given as goal

abbrev pub invariant-loop-piece : goal.invariant-loop-piece
invariant-loop-piece l = string_bytes l.text ≡ flat_map bare_piece (all_written (take l.piece-index l.pieces))
