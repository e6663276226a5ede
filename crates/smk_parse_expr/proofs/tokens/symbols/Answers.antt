use Rattle.std.proofs.Common.{take, subst, sym}
use Rattle.std.proofs.lemmas.List.Elements.{All-take}
use Rattle.smk_lex.specs.Tokens.{IsToken}
use Rattle.smk_parse_expr.specs.Grammar.{HasLetters}
use Rattle.smk_parse_expr.proofs.Letters.{letters-of}
use Rattle.smk_parse_expr.proofs.tokens.symbols.Goals as goal

pub returns-clause-letters : goal.returns-clause-letters
returns-clause-letters c =
    let seen = take c.loop-token.token-index c.args.tokens.now in
    subst HasLetters (sym c.loop-token.invariant) (letters-of c.args.source.now seen (All-take (IsToken c.args.source.now) c.loop-token.token-index c.args.tokens.now c.requires))
