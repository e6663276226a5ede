use Rattle.std.proofs.Common.{◌≡◌, length, string_bytes}
use Rattle.smk_parse_expr.specs.Exprs.{texts}
use Rattle.smk_parse_expr.proofs.exprs.texts.Given as goal

abbrev pub invariant-texts : goal.invariant-texts
invariant-texts l = texts (string_bytes l.found) l.cursor ≡ texts l.fn.first l.fn.cursor

abbrev pub decreases-texts : goal.decreases-texts
decreases-texts l = length l.cursor
