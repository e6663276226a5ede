-- The names of a source have a letter.
use Rattle.std.proofs.Common.{◌≢◌, ℕ, List, [], ◌∷◌}
use Rattle.std.proofs.lemmas.List.Elements.{All-head, All-tail}
use Rattle.std.specs.List.{All}
use Rattle.smk_lex.specs.declared.token.TokenKind.{TokenKind}
use Rattle.smk_lex.specs.declared.token.TokenKind.TheVariants as kind
use Rattle.smk_lex.specs.declared.token.Token.{Token}
use Rattle.smk_lex.specs.Spelling.{IsName}
use Rattle.smk_lex.specs.Tokens.{IsToken, Spells, spelling}
use Rattle.smk_parse_expr.specs.declared.symbol.Symbol.{Symbol}
use Rattle.smk_parse_expr.specs.Symbols.{Bytes}
use Rattle.smk_parse_expr.specs.Tokens.{by_kind, symbols_of}
use Rattle.smk_parse_expr.specs.Grammar.{HasLetters}

name-some : (w : Bytes) → IsName w → w ≢ []
name-some [] h = absurd h
name-some (b ∷ w) h = λ e. cc

letter-of : (k : TokenKind) (at : ℕ) (w : Bytes) (rest : List Symbol) → Spells k w → HasLetters rest → HasLetters (by_kind k at w ∷ rest)
letter-of kind.Name at w rest h more = (name-some w h, more)
letter-of kind.Number at w rest h more = more
letter-of kind.Spelling at w rest h more = more
letter-of kind.Text at w rest h more = more
letter-of kind.Sign at w rest h more = more
letter-of kind.Newline at w rest h more = more
letter-of kind.Indent at w rest h more = more
letter-of kind.Dedent at w rest h more = more

pub letters-of : (source : Bytes) (tokens : List Token) → All (IsToken source) tokens → HasLetters (symbols_of source tokens)
letters-of source [] h = tt
letters-of source (t ∷ ts) h = letter-of t.kind t.start (spelling source t) (symbols_of source ts) (All-head (IsToken source) t ts h).spelled (letters-of source ts (All-tail (IsToken source) t ts h))
