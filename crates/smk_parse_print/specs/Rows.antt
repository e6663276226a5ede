-- How rows of symbols are written, and the symbols that are read where they are. A row is a line of a workflow file.
use Rattle.std.specs.Prelude.{◌≡◌, ℕ, ◌+◌, ◌-◌, ◌≤◌, if◌then◌else◌, nat_lt, List, [], ◌∷◌, ◌++◌, map, replicate, Ok}
use Rattle.std.specs.Fmt.{decimal}
use Rattle.std.specs.Str.{IsUtf8}
use Rattle.smk_lex.specs.declared.token.TokenKind.TheVariants as kind
use Rattle.smk_lex.specs.declared.token.Token.{Token}
use Rattle.smk_lex.specs.Pieces.{Bytes, greatest}
use Rattle.smk_lex.specs.Layout.{lexed}
use Rattle.smk_lex.specs.Spelling.{IsName, quoted}
use Rattle.smk_parse_expr.specs.declared.symbol.Sign.{Sign}
use Rattle.smk_parse_expr.specs.declared.symbol.Sign.TheVariants as sign
use Rattle.smk_parse_expr.specs.declared.symbol.Symbol.{Symbol}
use Rattle.smk_parse_expr.specs.declared.symbol.Symbol.TheVariants as s
use Rattle.smk_parse_expr.specs.Tokens.{symbols_of}
use Rattle.smk_parse_print.specs.Lines.{Lexeme, Line, written, tokens_of, open_behind}

abbrev pub byte_of : Sign → ℕ
byte_of sign.Colon = 58
byte_of sign.Comma = 44
byte_of sign.Equals = 61
byte_of sign.Open = 40
byte_of sign.Close = 41
byte_of sign.OpenSquare = 91
byte_of sign.CloseSquare = 93
byte_of sign.Point = 46
byte_of sign.Plus = 43
byte_of sign.Greater = 62

abbrev pub lexeme_of : Symbol → Lexeme
lexeme_of (s.Name at w) = record { kind = kind.Name; bytes = w }
lexeme_of (s.Number at n) = record { kind = kind.Number; bytes = decimal n }
lexeme_of (s.Text at t) = record { kind = kind.Text; bytes = quoted t }
lexeme_of (s.Sign at k) = record { kind = kind.Sign; bytes = byte_of k ∷ [] }
lexeme_of (s.Newline at) = record { kind = kind.Newline; bytes = 10 ∷ [] }
lexeme_of (s.Indent at) = record { kind = kind.Indent; bytes = [] }
lexeme_of (s.Dedent at) = record { kind = kind.Dedent; bytes = [] }

pub record Row : Type 0 where
  pub level : ℕ
  pub first : Symbol
  pub rest : List Symbol

abbrev pub line_of : Row → Line
line_of r = record { level = r.level; first = lexeme_of r.first; rest = map lexeme_of r.rest }

-- the bytes of the rows, one below the other
abbrev pub bytes_of : List Row → Bytes
bytes_of rs = written (map line_of rs)

abbrev pub row_tokens : List Row → List Token
row_tokens rs = tokens_of 0 0 (map line_of rs)

-- ---- which symbols a row may have

-- Names are names, texts are UTF-8, numbers are at most 2 ^ 63 - 1, and no line ends or levels stand within a row.
abbrev pub IsFit : Symbol → Type 0
IsFit (s.Name at w) = IsName w
IsFit (s.Number at n) = n ≤ greatest
IsFit (s.Text at t) = IsUtf8 t
IsFit (s.Sign at k) = Unit {0}
IsFit (s.Newline at) = ⊥
IsFit (s.Indent at) = ⊥
IsFit (s.Dedent at) = ⊥

abbrev pub AllFit : List Symbol → Type 0
AllFit [] = Unit {0}
AllFit (x ∷ xs) = IsFit x × AllFit xs

-- the brackets of a row are closed at its end
pub record IsRow (r : Row) : Type 0 where
  pub fit : AllFit (r.first ∷ r.rest)
  pub closed : open_behind 0 (map lexeme_of (r.first ∷ r.rest)) ≡ 0

-- a row is at most one level deeper than the one above
abbrev pub AreRows : ℕ → List Row → Type 0
AreRows above [] = Unit {0}
AreRows above (r ∷ rs) = (r.level ≤ above + 1) × IsRow r × AreRows r.level rs

-- ---- what is read

-- the symbol, wherever it stands
abbrev pub unplaced : Symbol → Symbol
unplaced (s.Name at w) = s.Name 0 w
unplaced (s.Number at n) = s.Number 0 n
unplaced (s.Text at t) = s.Text 0 t
unplaced (s.Sign at k) = s.Sign 0 k
unplaced (s.Newline at) = s.Newline 0
unplaced (s.Indent at) = s.Indent 0
unplaced (s.Dedent at) = s.Dedent 0

abbrev pub turned : ℕ → ℕ → List Symbol
turned above level = if nat_lt above level then s.Indent 0 ∷ [] else replicate (above - level) (s.Dedent 0)

-- the symbols of the rows with the line ends, and with the levels that open and close
abbrev pub row_symbols : ℕ → List Row → List Symbol
row_symbols above [] = replicate above (s.Dedent 0)
row_symbols above (r ∷ rs) = turned above r.level ++ (map unplaced (r.first ∷ r.rest) ++ (s.Newline 0 ∷ row_symbols r.level rs))

pub record ReadsBack (rs : List Row) : Type 0 where
  pub tokens : lexed (bytes_of rs) ≡ Ok (row_tokens rs)
  pub symbols : map unplaced (symbols_of (bytes_of rs) (row_tokens rs)) ≡ row_symbols 0 rs
