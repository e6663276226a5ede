-- What stands in the template of a command.
use Rattle.std.specs.Prelude.{ℕ, zero, suc, Bool, ◌||◌, ◌==◌, List, [], ◌∷◌, ◌++◌, take, slice_index, if◌then◌else◌}
use Rattle.std.specs.List.{flat_map}

abbrev pub Text : Type 0
Text = List ℕ

-- A byte that stands for itself; a field, by what stands between its braces; or a brace that is neither doubled nor part of a field, with
-- what was read after it.
pub data Symbol : Type 0 where
  Plain : ℕ → Symbol
  Field : Text → Symbol
  Loose : Text → Symbol

abbrev pub is_brace : ℕ → Bool
is_brace b = (b == 123) || (b == 125)

-- how many bytes stand before the first brace
abbrev pub first_brace : Text → ℕ
first_brace [] = 0
first_brace (b ∷ t) = if is_brace b then 0 else suc (first_brace t)

-- a brace closes what has this length
abbrev pub is_closed : Text → ℕ → Bool
is_closed t k = slice_index t k == 125

-- what an opening brace begins, before these bytes, of which so many stand before the next brace
abbrev pub opened : Text → ℕ → Symbol
opened t k = if is_closed t k then Field (take k t) else Loose (123 ∷ take k t)

-- how many of the bytes belong to it
abbrev pub opened_more : Text → ℕ → ℕ
opened_more t k = if is_closed t k then suc k else k

-- what a brace is that isn't doubled
abbrev pub undoubled : ℕ → Text → Symbol
undoubled b t = if b == 123 then opened t (first_brace t) else Loose (b ∷ [])

abbrev pub undoubled_more : ℕ → Text → ℕ
undoubled_more b t = if b == 123 then opened_more t (first_brace t) else 0

-- the same byte follows
abbrev pub is_doubled : ℕ → Text → Bool
is_doubled b t = slice_index t 0 == b

-- what a byte begins, before these bytes
abbrev pub symbol_at : ℕ → Text → Symbol
symbol_at b t = if is_brace b then (if is_doubled b t then Plain b else undoubled b t) else Plain b

-- how many of the bytes that follow belong to it
abbrev pub more_at : ℕ → Text → ℕ
more_at b t = if is_brace b then (if is_doubled b t then 1 else undoubled_more b t) else 0

-- what stands in a text after so many bytes
abbrev pub symbols_after : ℕ → Text → List Symbol
symbols_after k [] = []
symbols_after (suc k) (b ∷ t) = symbols_after k t
symbols_after zero (b ∷ t) = symbol_at b t ∷ symbols_after (more_at b t) t

-- A template, read: a doubled brace is one brace, a field stands between two braces without others between them, and every other byte
-- stands for itself.
abbrev pub symbols : Text → List Symbol
symbols = symbols_after 0

-- a field with its braces
abbrev pub braced : Text → Text
braced field = 123 ∷ (field ++ 125 ∷ [])

-- a symbol as it is written
abbrev pub written : Symbol → Text
written (Plain b) = b ∷ []
written (Field field) = braced field
written (Loose text) = text

-- a symbol as it stands in a template
abbrev pub spelled : Symbol → Text
spelled (Plain b) = if is_brace b then b ∷ b ∷ [] else b ∷ []
spelled (Field field) = braced field
spelled (Loose text) = text

-- the template of these symbols
abbrev pub template_of : List Symbol → Text
template_of = flat_map spelled
