-- What the pieces and wildcards that code holds are.
use Rattle.std.specs.Prelude.{List, map, option_map, length, Option}
use Rattle.smk_pattern.specs.declared.pattern.Piece.{Piece}
use Rattle.smk_pattern.specs.declared.pattern.Piece.TheVariants.{Literal, Wild}
use Rattle.smk_pattern.specs.declared.pattern.Wildcard as code
use Rattle.smk_pattern.specs.Shapes.{Text, Part, Wildcard, Shape, IsNumbered, AreTexts}
use Rattle.smk_pattern.specs.Shapes.Part.{text, wild}

abbrev pub part_of : Piece → Part
part_of (Literal t) = text t
part_of (Wild n) = wild n

abbrev pub parts_of : List Piece → List Part
parts_of = map part_of

abbrev pub wildcard_of : code.Wildcard → Wildcard
wildcard_of w = record { name = w.name; limit = option_map (λ l. l.value) w.limit }

abbrev pub wildcards_of : List code.Wildcard → List Wildcard
wildcards_of = map wildcard_of

-- the constraints of the wildcards
abbrev pub limits_of : List code.Wildcard → List (Option Text)
limits_of wildcards = map (λ (w : Wildcard). w.limit) (wildcards_of wildcards)

abbrev pub pattern_of : List Piece → List code.Wildcard → Shape
pattern_of pieces wildcards = record { parts = parts_of pieces; wildcards = wildcards_of wildcards }

-- what holds of every pattern: its wildcards have numbers in the order in which they first stand, and its texts are UTF-8
pub record IsWellFormed (pieces : List Piece) (wildcards : List code.Wildcard) : Type 0 where
  pub numbered : IsNumbered (parts_of pieces) 0 (length wildcards)
  pub texts : AreTexts (parts_of pieces)
