-- The symbol that a token stands for.
use Rattle.std.specs.Prelude.{ℕ, if◌then◌else◌, ◌==◌, List, map, slice_index, unwrap_or}
use Rattle.smk_lex.specs.declared.token.TokenKind.{TokenKind}
use Rattle.smk_lex.specs.declared.token.TokenKind.TheVariants as kind
use Rattle.smk_lex.specs.declared.token.Token.{Token}
use Rattle.smk_lex.specs.Pieces.{number_of}
use Rattle.smk_lex.specs.Spelling.{text_value}
use Rattle.smk_lex.specs.Tokens.{spelling}
use Rattle.smk_parse_expr.specs.declared.symbol.Sign.{Sign}
use Rattle.smk_parse_expr.specs.declared.symbol.Sign.TheVariants as sign
use Rattle.smk_parse_expr.specs.declared.symbol.Symbol.{Symbol}
use Rattle.smk_parse_expr.specs.declared.symbol.Symbol.TheVariants as s
use Rattle.smk_parse_expr.specs.Symbols.{Bytes}

-- : , = ( ) [ ] . + and >
abbrev pub sign_of : ℕ → Sign
sign_of b =
    if b == 58 then sign.Colon
    else (if b == 44 then sign.Comma
    else (if b == 61 then sign.Equals
    else (if b == 40 then sign.Open
    else (if b == 41 then sign.Close
    else (if b == 91 then sign.OpenSquare
    else (if b == 93 then sign.CloseSquare
    else (if b == 46 then sign.Point
    else (if b == 43 then sign.Plus else sign.Greater))))))))

-- a numeral that is no number stands as a text
abbrev pub by_kind : TokenKind → ℕ → Bytes → Symbol
by_kind kind.Name at w = s.Name at w
by_kind kind.Number at w = s.Number at (unwrap_or (number_of w) 0)
by_kind kind.Spelling at w = s.Text at w
by_kind kind.Text at w = s.Text at (text_value w)
by_kind kind.Sign at w = s.Sign at (sign_of (slice_index w 0))
by_kind kind.Newline at w = s.Newline at
by_kind kind.Indent at w = s.Indent at
by_kind kind.Dedent at w = s.Dedent at

abbrev pub symbol_of : Bytes → Token → Symbol
symbol_of source t = by_kind t.kind t.start (spelling source t)

abbrev pub symbols_of : Bytes → List Token → List Symbol
symbols_of source tokens = map (symbol_of source) tokens
