-- What stands in a pattern of `expand`.
use Rattle.std.specs.Prelude.{ℕ, zero, suc, Bool, false, ◌&&◌, ◌||◌, ◌==◌, List, [], ◌∷◌, ◌++◌, map, take, Option, unwrap_or, option_map, if◌then◌else◌, slice_index}
use Rattle.std.specs.List.{list_any, find, flat_map}
use Rattle.std.specs.Str.{bytes_eq}
use Rattle.std.specs.Int.{is_in_range}
use Rattle.smk_base.specs.declared.tree.Pair.{Pair}
use Rattle.smk_template.specs.Templates.{is_brace}
use Rattle.smk_eval_values.specs.declared.reading.Piece.{Piece}
use Rattle.smk_eval_values.specs.declared.reading.Piece.TheVariants.{Plain, Name}

-- a byte that stands for itself, or a name that a value takes the place of
pub data Letter : Type 0 where
  plain : ℕ → Letter
  name : List ℕ → Letter

abbrev pub begins_name : ℕ → Bool
begins_name b = is_in_range 65 90 b || (is_in_range 97 122 b || (b == 95))

abbrev pub is_name_byte : ℕ → Bool
is_name_byte b = begins_name b || is_in_range 48 57 b

-- how many bytes of a name a text begins with
abbrev pub name_len : List ℕ → ℕ
name_len [] = 0
name_len (b ∷ t) = if is_name_byte b then suc (name_len t) else 0

-- a name stands in front, with a closing brace after it
abbrev pub is_closed : List ℕ → Bool
is_closed t = begins_name (slice_index t 0) && (slice_index t (name_len t) == 125)

abbrev pub opens_name : ℕ → List ℕ → Bool
opens_name b t = (b == 123) && is_closed t

-- the same brace follows
abbrev pub is_doubled : ℕ → List ℕ → Bool
is_doubled b t = is_brace b && (slice_index t 0 == b)

-- how many bytes of a name stand between this byte and the brace that closes it; 0 where no name does
abbrev pub closed_len : ℕ → List ℕ → ℕ
closed_len b t = if opens_name b t then name_len t else 0

-- what a byte is before these, of which so many are its name
abbrev pub letter_by : ℕ → List ℕ → ℕ → Letter
letter_by b t zero = plain b
letter_by b t (suc k) = name (take (suc k) t)

-- how many of the bytes that follow go with it: the name and its brace, or the second of two equal braces
abbrev pub more_by : ℕ → List ℕ → ℕ → ℕ
more_by b t zero = if is_doubled b t then 1 else 0
more_by b t (suc k) = suc (suc k)

-- what stands in a text after so many bytes
abbrev pub letters_after : ℕ → List ℕ → List Letter
letters_after k [] = []
letters_after (suc k) (b ∷ t) = letters_after k t
letters_after zero (b ∷ t) = letter_by b t (closed_len b t) ∷ letters_after (more_by b t (closed_len b t)) t

-- A pattern, read: `{NAME}` is a name, a doubled brace is one brace, and every other byte stands for itself.
abbrev pub letters : List ℕ → List Letter
letters = letters_after 0

-- ## Filling

-- the value of a name, where it has one
abbrev pub value : List Pair → List ℕ → Option (List ℕ)
value bound n = option_map (λ (p : Pair). p.value) (find (λ (p : Pair). bytes_eq p.name n) bound)

-- a name as it is written
abbrev pub braced : List ℕ → List ℕ
braced n = 123 ∷ (n ++ 125 ∷ [])

-- a name without a value stays as it is written
abbrev pub letter_text : List Pair → Letter → List ℕ
letter_text bound (plain b) = b ∷ []
letter_text bound (name n) = unwrap_or (value bound n) (braced n)

-- a pattern with these values for its names
abbrev pub filled : List Pair → List Letter → List ℕ
filled bound = flat_map (letter_text bound)

-- ## Names

abbrev pub is_name : List ℕ → Letter → Bool
is_name n (plain b) = false
is_name n (name m) = bytes_eq n m

-- whether the name stands in a pattern
abbrev pub stands : List Letter → List ℕ → Bool
stands ls n = list_any (is_name n) ls

-- ## Pieces

abbrev pub piece_letters : Piece → List Letter
piece_letters (Plain t) = map plain t
piece_letters (Name n) = name n ∷ []

-- what the pieces of a pattern are
abbrev pub letters_of : List Piece → List Letter
letters_of = flat_map piece_letters
