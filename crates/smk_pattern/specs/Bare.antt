-- Texts of patterns without what stands in their wildcards besides names.
use Rattle.std.specs.Prelude.{[], ◌∷◌, ◌++◌, if◌then◌else◌}
use Rattle.std.specs.List.{flat_map}
use Rattle.smk_pattern.specs.Shapes.{Text}
use Rattle.smk_pattern.specs.Grammar.{Piece, plain, hole, is_balanced}
use Rattle.smk_pattern.specs.Reading.{pieces}

abbrev pub bare_piece : Piece → Text
bare_piece (plain t) = t
bare_piece (hole name limit) = 123 ∷ (name ++ 125 ∷ [])

-- each wildcard as its name in braces; a text whose braces aren't balanced stays as it is
abbrev pub without_limits : Text → Text
without_limits t = if is_balanced 0 t then flat_map bare_piece (pieces t) else t
