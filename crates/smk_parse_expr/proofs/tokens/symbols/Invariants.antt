use Rattle.std.proofs.Common.{◌≡◌, take}
use Rattle.smk_parse_expr.specs.Tokens.{symbols_of}
use Rattle.smk_parse_expr.proofs.tokens.symbols.Given as goal

abbrev pub invariant-loop-token : goal.invariant-loop-token
invariant-loop-token l = l.found ≡ symbols_of l.source (take l.token-index l.tokens)
