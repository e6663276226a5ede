use Rattle.std.proofs.Common.{◌≡◌, ◌-◌}
use Rattle.smk_parse_expr.specs.Exprs.{keys, keys_from}
use Rattle.smk_parse_expr.proofs.exprs.keys.Given as goal

abbrev pub invariant-loop-turn : goal.invariant-loop-turn
invariant-loop-turn l = keys l.fn.cursor ≡ keys_from (l._turn-end - l._turn) l.found l.cursor
