-- Where faults stand.
use Rattle.std.specs.Prelude.{◌≡◌, ℕ, true, List, [], ◌∷◌, ◌++◌, Ok, Err}
use Rattle.smk_parse_expr.specs.declared.symbol.Symbol.{Symbol}
use Rattle.smk_parse_expr.specs.declared.symbol.Symbol.TheVariants as s
use Rattle.smk_parse_expr.specs.declared.symbol.Sign.TheVariants.{Equals}
use Rattle.smk_parse_expr.specs.declared.symbol.ParseFault.{ParseFault}
use Rattle.smk_parse_expr.specs.declared.symbol.ParseFault.TheVariants.{Unexpected, Unsupported, Doubled}
use Rattle.smk_parse_expr.specs.Symbols.{Bytes, Outcome, place_of, word_of, is_unsupported, refusal}

-- no symbol of these ends a line, an indentation or a body
abbrev pub NoEnds : List Symbol → Type 0
NoEnds [] = Unit {0}
NoEnds (s.Newline at ∷ xs) = ⊥
NoEnds (s.Indent at ∷ xs) = ⊥
NoEnds (s.Dedent at ∷ xs) = ⊥
NoEnds (s.Name at w ∷ xs) = NoEnds xs
NoEnds (s.Number at n ∷ xs) = NoEnds xs
NoEnds (s.Text at t ∷ xs) = NoEnds xs
NoEnds (s.Sign at k ∷ xs) = NoEnds xs

-- These symbols are refused with this fault. Unsupported stands at a word of Python that the language doesn't have, Doubled
-- at a name before `=`, and Unexpected at a symbol that is no such word, or behind all symbols, where none of them is an end.
pub data IsRefused (i : List Symbol) : ParseFault → Type 0 where
  unexpected : (xs ys : List Symbol) (y : Symbol) → i ≡ xs ++ y ∷ ys → refusal (y ∷ ys) ≡ Unexpected (place_of y) → IsRefused i (Unexpected (place_of y))
  unexpected_end : NoEnds i → IsRefused i (Unexpected 0)
  unsupported : (xs ys : List Symbol) (at : ℕ) (w : Bytes) → i ≡ xs ++ s.Name at w ∷ ys → is_unsupported (word_of w) ys ≡ true → IsRefused i (Unsupported at)
  doubled : (xs ys : List Symbol) (a b : ℕ) (w : Bytes) → i ≡ xs ++ s.Name a w ∷ s.Sign b Equals ∷ ys → IsRefused i (Doubled a)

-- what is left is the end of what was there, and no end was taken; or the symbols are refused
abbrev pub IsJudged : {A : Type 0} → List Symbol → Outcome A → Type 0
IsJudged i (Ok p) = (xs : List Symbol) × (i ≡ xs ++ p.1) × NoEnds xs
IsJudged i (Err f) = IsRefused i f
