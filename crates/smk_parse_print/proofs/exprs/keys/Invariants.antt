use Rattle.std.proofs.Common.{◌≡◌, ◌++◌, drop}
use Rattle.smk_parse_expr.specs.Printing as print
use Rattle.smk_parse_print.specs.Writing.{spaced}
use Rattle.smk_parse_print.proofs.exprs.keys.Given as goal

abbrev pub invariant-loop-key : goal.invariant-loop-key
invariant-loop-key l = l.out.items ++ spaced (print.printed_keys (drop l.key-index l.keys)) ≡ l.fn.out.items ++ spaced (print.printed_keys l.keys)
