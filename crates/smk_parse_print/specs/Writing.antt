-- What each function writes.
use Rattle.std.specs.Prelude.{Bool, if◌then◌else◌, List, [], ◌∷◌, ◌++◌}
use Rattle.smk_lex.specs.Pieces.{Bytes}
use Rattle.smk_parse_expr.specs.declared.symbol.Sign.{Sign}
use Rattle.smk_parse_expr.specs.declared.symbol.Symbol.{Symbol}
use Rattle.smk_parse_expr.specs.declared.symbol.Symbol.TheVariants as s
use Rattle.smk_parse_print.specs.declared.spell.Lent.{Lent}
use Rattle.smk_parse_print.specs.declared.spell.Lent.TheVariants as lent
use Rattle.smk_parse_print.specs.Rows.{lexeme_of}

-- symbols, a blank before each
abbrev pub spaced : List Symbol → Bytes
spaced [] = []
spaced (x ∷ xs) = 32 ∷ ((lexeme_of x).bytes ++ spaced xs)

abbrev pub symbol_of : Lent → Symbol
symbol_of (lent.Name w) = s.Name 0 w.now
symbol_of (lent.Number n) = s.Number 0 n
symbol_of (lent.Text t) = s.Text 0 t.now
symbol_of (lent.Sign k) = s.Sign 0 k

abbrev pub if_so : Bool → Sign → List Symbol
if_so b k = if b then s.Sign 0 k ∷ [] else []
