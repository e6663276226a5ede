-- A text read as a pattern, and texts with their wildcards filled, computed.
use Rattle.std.specs.Prelude.{ℕ, zero, suc, Bool, true, false, ◌&&◌, ◌||◌, not, List, [], ◌∷◌, ◌++◌, map, filter, reverse, nat_lt, ◌==◌, bytes_eq, if◌then◌else◌, Option, Some, None, option_map}
use Rattle.std.specs.List.{list_any, find, flat_map}
use Rattle.std.specs.Int.{is_in_range}
use Rattle.smk_base.specs.declared.tree.Pair.{Pair}
use Rattle.smk_pattern.specs.Shapes.{Text, Part, Shape}
use Rattle.smk_pattern.specs.Shapes.Part.{text, wild}
use Rattle.smk_pattern.specs.Grammar.{Piece, plain, hole, is_blank, is_name, is_letter, limit_for, inline_limits}

-- ## Pieces

abbrev pub or_empty : Option Text → Text
or_empty None = []
or_empty (Some t) = t

-- without the blanks in front
abbrev pub trimmed : Text → Text
trimmed [] = []
trimmed (b ∷ t) = if is_blank b then trimmed t else b ∷ t

-- without the blanks at both ends
abbrev pub stripped : Text → Text
stripped t = reverse (trimmed (reverse (trimmed t)))

abbrev pub before_comma : Text → Text
before_comma [] = []
before_comma (b ∷ t) = if b == 44 then [] else b ∷ before_comma t

-- what follows the first comma, where there is one
abbrev pub after_comma : Text → Option Text
after_comma [] = None
after_comma (b ∷ t) = if b == 44 then Some (trimmed t) else after_comma t

-- the wildcard that stands as this between its braces
abbrev pub hole_of : Text → Piece
hole_of inside = hole (stripped (before_comma inside)) (after_comma inside)

-- a text, given backwards, unless it is empty
abbrev pub plain_of : Text → List Piece
plain_of [] = []
plain_of (b ∷ held) = plain (reverse (b ∷ held)) ∷ []

-- Reading goes byte by byte, with so many braces open and with what has been read of the piece that isn't ended, backwards:
-- the piece that ends at this byte,
abbrev pub ended : ℕ → ℕ → Text → List Piece
ended b zero held = if b == 123 then plain_of held else []
ended b (suc zero) held = if b == 125 then hole_of (reverse held) ∷ [] else []
ended b (suc (suc depth)) held = []

-- the braces that are open after it,
abbrev pub depth_after : ℕ → ℕ → ℕ
depth_after b zero = if b == 123 then 1 else 0
depth_after b (suc depth) = if b == 123 then suc (suc depth) else (if b == 125 then depth else suc depth)

-- and what has been read of the next piece
abbrev pub held_after : ℕ → ℕ → Text → Text
held_after b zero held = if b == 123 then [] else b ∷ held
held_after b (suc zero) held = if b == 125 then [] else b ∷ held
held_after b (suc (suc depth)) held = b ∷ held

abbrev pub pieces_from : Text → ℕ → Text → List Piece
pieces_from [] depth held = plain_of held
pieces_from (b ∷ t) depth held = ended b depth held ++ pieces_from t (depth_after b depth) (held_after b depth held)

-- a text as its pieces: texts and wildcards
abbrev pub pieces : Text → List Piece
pieces t = pieces_from t 0 []

-- ## The pattern that a text is

-- its names, each where it first stands
abbrev pub names_in : List Piece → List Text
names_in [] = []
names_in (plain t ∷ ps) = names_in ps
names_in (hole name limit ∷ ps) = name ∷ filter (λ other. not (bytes_eq name other)) (names_in ps)

-- how many names stand before this one
abbrev pub place_of : Text → List Text → ℕ
place_of name [] = 0
place_of name (other ∷ names) = if bytes_eq name other then 0 else suc (place_of name names)

abbrev pub part_in : List Text → Piece → Part
part_in names (plain t) = text t
part_in names (hole name limit) = wild (place_of name names)

-- the pattern that a text is with these constraints for its names; one that stands in the text wins
abbrev pub shape_of : List Pair → Text → Shape
shape_of limits t =
    record {
      parts = map (part_in (names_in (pieces t))) (pieces t);
      wildcards = map (λ name. record { name = name; limit = limit_for limits name (inline_limits name (pieces t)) }) (names_in (pieces t));
    }

abbrev pub is_hole : Piece → Bool
is_hole (plain t) = false
is_hole (hole name limit) = true

abbrev pub has_wildcards : Text → Bool
has_wildcards t = list_any is_hole (pieces t)

-- ## Filling

-- the value of a name
abbrev pub value : List Pair → Text → Option Text
value binding name = option_map (λ (p : Pair). p.value) (find (λ (p : Pair). bytes_eq p.name name) binding)

abbrev pub fill_piece : List Pair → Piece → Text
fill_piece binding (plain t) = t
fill_piece binding (hole name limit) = or_empty (value binding name)

-- the text with each wildcard replaced by its value
abbrev pub fill : List Pair → Text → Text
fill binding t = flat_map (fill_piece binding) (pieces t)

-- What follows a place in a text that isn't read as a pattern: filled; and, where this place is in a name that a brace closes,
-- the rest of the name with what follows the brace.
pub record Filled : Type 0 where
  pub whole : Text
  pub name : Option (Text × Text)

abbrev pub one_name : Text → List Pair → ℕ → Option (Text × Text) → Text
one_name whole binding b None = b ∷ whole
one_name whole binding b (Some closed) = if b == 123 && is_name closed.0 then or_empty (value binding closed.0) ++ closed.1 else b ∷ whole

abbrev pub longer_name : ℕ → Text → Option (Text × Text) → Option (Text × Text)
longer_name b whole closed =
    if b == 125 then Some ([], whole)
    else (if is_letter b || is_in_range 48 57 b then option_map (λ (c : Text × Text). (b ∷ c.0, c.1)) closed else None)

abbrev pub filling : List Pair → Text → Filled
filling binding [] = record { whole = []; name = None }
filling binding (b ∷ t) =
    let later = filling binding t in
    record { whole = one_name later.whole binding b later.name; name = longer_name b later.whole later.name }

-- a parameter: each `{NAME}` is replaced by its value, and every other brace stands for itself
abbrev pub fill_words : List Pair → Text → Text
fill_words binding t = (filling binding t).whole

-- ## Bindings by name

-- in byte order, the first of two equal ones first
abbrev pub is_below : Text → Text → Bool
is_below [] [] = false
is_below [] (c ∷ b) = true
is_below (x ∷ a) [] = false
is_below (x ∷ a) (y ∷ b) = nat_lt x y || (x == y && is_below a b)

abbrev pub put : Pair → List Pair → List Pair
put p [] = p ∷ []
put p (q ∷ rest) = if is_below p.name q.name then p ∷ q ∷ rest else q ∷ put p rest

-- the pairs by name
abbrev pub by_name : List Pair → List Pair
by_name [] = []
by_name (p ∷ rest) = put p (by_name rest)
