-- Whether a text is written as a pattern, computed from its pieces.
use Rattle.std.specs.Prelude.{◌≡◌, ℕ, Bool, true, List, [], ◌∷◌, ◌++◌, ◌&&◌, ◌||◌, ◌==◌, length, nat_le, if◌then◌else◌, Some, is_none, slice_get, take, Option}
use Rattle.std.specs.List.{list_all}
use Rattle.smk_base.specs.declared.tree.Pair.{Pair}
use Rattle.smk_base.specs.Path.{is_path}
use Rattle.smk_pattern.specs.Shapes.{Text, Wildcard, Shape}
use Rattle.smk_pattern.specs.Grammar.{Piece, plain, hole, is_name, is_balanced, inline_limits, limit_for, IsPattern}
use Rattle.smk_pattern.specs.Reading.{pieces, names_in, place_of, has_wildcards, shape_of}
use Rattle.smk_pattern.specs.Limits.{IsLimit}

abbrev pub is_named : Piece → Bool
is_named (plain t) = true
is_named (hole name limit) = is_name name

-- the name has at most one constraint in these pieces
abbrev pub is_single : List Piece → Text → Bool
is_single ps name = nat_le (length (inline_limits name ps)) 1

-- wildcards have names, a name has at most one constraint, and there is a piece
abbrev pub are_written : List Piece → Bool
are_written ps = list_all is_named ps && (list_all (is_single ps) (names_in ps) && nat_le 1 (length ps))

-- the text is written as a pattern; without wildcards it is a path
abbrev pub is_written : Text → Bool
is_written t = is_balanced 0 t && (are_written (pieces t) && (has_wildcards t || is_path t))

-- no constraint stands in the piece
abbrev pub is_bare : Piece → Bool
is_bare (plain t) = true
is_bare (hole name limit) = is_none limit

-- the names, where the piece's is one of them
abbrev pub with_name : Piece → List Text → List Text
with_name (plain t) names = names
with_name (hole name limit) names = if place_of name names == length names then names ++ name ∷ [] else names

-- the wildcard of this name, with what it has for its constraint
abbrev pub wildcard_by : (Text → Option Text) → Text → Wildcard
wildcard_by limit_of name = record { name = name; limit = limit_of name }

-- the wildcard of this name
abbrev pub wildcard_in : List Pair → List Piece → Text → Wildcard
wildcard_in given ps name = record { name = name; limit = limit_for given name (inline_limits name ps) }

-- what each of these names has for its constraint can be one
abbrev pub AreAllLimits : (Text → Option Text) → List Text → Type 0
AreAllLimits limit_of names = (n : ℕ) (name limit : Text) → slice_get names n ≡ Some name → limit_of name ≡ Some limit → IsLimit limit

-- this name is the first of these for which that isn't so
pub record IsFirstBad (limit_of : Text → Option Text) (names : List Text) (name : Text) : Type 0 where
  pub n : ℕ
  pub at : slice_get names n ≡ Some name
  pub limit : Text
  pub is : limit_of name ≡ Some limit
  pub bad : ¬ IsLimit limit
  pub before : AreAllLimits limit_of (take n names)

-- the constraint of each of these names can be one
abbrev pub AreLimits : List Pair → List Piece → List Text → Type 0
AreLimits given ps names = AreAllLimits (λ name. limit_for given name (inline_limits name ps)) names

-- this name is the first of these whose constraint can't be one
abbrev pub IsBadLimit : List Pair → List Piece → List Text → Text → Type 0
IsBadLimit given ps names name = IsFirstBad (λ name. limit_for given name (inline_limits name ps)) names name

-- What is read is what the grammar has: a text that is written as a pattern, with constraints that can be ones, is in its relation,
-- with the pattern that is computed for the text; and a text that is in the relation is written so, with such constraints, and the
-- pattern of the relation is that one.
abbrev pub ReadingIsGrammar : Type 0
ReadingIsGrammar =
    (given : List Pair) (source : Text) →
    (is_written source ≡ true → AreLimits given (pieces source) (names_in (pieces source)) → IsPattern given source is_path (shape_of given source))
    × ((p : Shape) → IsPattern given source is_path p →
    (is_written source ≡ true) × AreLimits given (pieces source) (names_in (pieces source)) × (p ≡ shape_of given source))
