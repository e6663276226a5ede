-- How lines of lexemes are written, and the tokens that are written so.
use Rattle.std.specs.Prelude.{◌≡◌, ℕ, ◌+◌, ◌-◌, ◌*◌, ◌≤◌, true, if◌then◌else◌, nat_lt, List, [], ◌∷◌, ◌++◌, length, replicate, slice_index}
use Rattle.std.specs.Fmt.{decimal}
use Rattle.std.specs.Str.{IsUtf8}
use Rattle.smk_lex.specs.declared.token.TokenKind.{TokenKind}
use Rattle.smk_lex.specs.declared.token.TokenKind.TheVariants as kind
use Rattle.smk_lex.specs.declared.token.Token.{Token}
use Rattle.smk_lex.specs.Pieces.{Bytes, is_sign, greatest}
use Rattle.smk_lex.specs.Layout.{token, dedents, depth_after}
use Rattle.smk_lex.specs.Spelling.{IsName, quoted}

pub record Lexeme : Type 0 where
  pub kind : TokenKind
  pub bytes : Bytes

pub record Line : Type 0 where
  -- how many levels are open
  pub level : ℕ
  pub first : Lexeme
  pub rest : List Lexeme

-- ---- bytes

-- four blanks for each level
abbrev pub indentation : ℕ → Bytes
indentation level = replicate (4 * level) 32

-- a blank before each lexeme, and the line end
abbrev pub to_line_end : List Lexeme → Bytes
to_line_end [] = 10 ∷ []
to_line_end (l ∷ ls) = 32 ∷ (l.bytes ++ to_line_end ls)

abbrev pub line_bytes : Line → Bytes
line_bytes l = indentation l.level ++ (l.first.bytes ++ to_line_end l.rest)

abbrev pub written : List Line → Bytes
written [] = []
written (l ∷ ls) = line_bytes l ++ written ls

-- ---- tokens

-- the lexemes of a line, the first of which stands at `at`, and the line end
abbrev pub lexemes_at : ℕ → Lexeme → List Lexeme → List Token
lexemes_at at l [] = token l.kind at (at + length l.bytes) ∷ token kind.Newline (at + length l.bytes) (at + length l.bytes + 1) ∷ []
lexemes_at at l (m ∷ ms) = token l.kind at (at + length l.bytes) ∷ lexemes_at (at + length l.bytes + 1) m ms

-- at the indentation of a line that begins at `at`: an Indent for a deeper level, or a Dedent for each level that ends
abbrev pub turn : ℕ → ℕ → ℕ → List Token
turn above level at = if nat_lt above level then token kind.Indent at (at + 4 * level) ∷ [] else dedents (above - level) (at + 4 * level)

-- the tokens of lines that begin at `at`, below a line of the level `above`
abbrev pub tokens_of : ℕ → ℕ → List Line → List Token
tokens_of above at [] = dedents above at
tokens_of above at (l ∷ ls) = turn above l.level at ++ (lexemes_at (at + 4 * l.level) l.first l.rest ++ tokens_of l.level (at + length (line_bytes l)) ls)

-- ---- which lines

-- a name, a number in decimal digits, a text between double quotes, or a sign
pub data IsWritten : Lexeme → Type 0 where
  a_name : (w : Bytes) → IsName w → IsWritten (record { kind = kind.Name; bytes = w })
  a_number : (n : ℕ) → n ≤ greatest → IsWritten (record { kind = kind.Number; bytes = decimal n })
  a_text : (t : Bytes) → IsUtf8 t → IsWritten (record { kind = kind.Text; bytes = quoted t })
  a_sign : (b : ℕ) → is_sign b ≡ true → IsWritten (record { kind = kind.Sign; bytes = b ∷ [] })

abbrev pub AllWritten : List Lexeme → Type 0
AllWritten [] = Unit {0}
AllWritten (l ∷ ls) = IsWritten l × AllWritten ls

-- how many brackets are open behind the lexemes, where so many were before
abbrev pub open_behind : ℕ → List Lexeme → ℕ
open_behind depth [] = depth
open_behind depth (l ∷ ls) = open_behind (depth_after (slice_index l.bytes 0) depth) ls

-- the brackets of a line are closed at its end
pub record IsLine (l : Line) : Type 0 where
  pub lexemes : AllWritten (l.first ∷ l.rest)
  pub closed : open_behind 0 (l.first ∷ l.rest) ≡ 0

-- a line is at most one level deeper than the one above
abbrev pub AreLines : ℕ → List Line → Type 0
AreLines above [] = Unit {0}
AreLines above (l ∷ ls) = (l.level ≤ above + 1) × IsLine l × AreLines l.level ls
