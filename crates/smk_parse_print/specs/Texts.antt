-- What the spelling of a text is for.
use Rattle.std.specs.Prelude.{◌≡◌, ◌≢◌, ℕ, true, not, ◌||◌, ◌==◌, ◌∷◌, ◌++◌, length}
use Rattle.std.specs.List.{list_all}
use Rattle.std.specs.Str.{IsUtf8}
use Rattle.smk_lex.specs.declared.token.TokenKind.TheVariants as kind
use Rattle.smk_lex.specs.declared.piece.Piece.TheVariants.{Lexeme}
use Rattle.smk_lex.specs.Pieces.{Bytes, cut}
use Rattle.smk_lex.specs.Spelling.{text_value, quoted}

-- no byte of a line end
abbrev pub IsOnOneLine : Bytes → Type 0
IsOnOneLine w = list_all (λ b. not (b == 10 || b == 13)) w ≡ true

-- The spelling stands for the text, and is one lexeme, whatever follows but a quote. It stands on one line, and is UTF-8 where
-- the text is.
pub record IsSpelled (t : Bytes) : Type 0 where
  pub value : text_value (quoted t) ≡ t
  pub lexeme : (x : ℕ) (rest : Bytes) → x ≢ 34 → cut (quoted t ++ x ∷ rest) ≡ Lexeme kind.Text (length (quoted t))
  pub line : IsOnOneLine (quoted t)
  pub utf8 : IsUtf8 t → IsUtf8 (quoted t)
