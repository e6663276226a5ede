use Rattle.std.proofs.Common.{◌≡◌, ◌-◌, ◌*◌, ◌+◌}
use Rattle.smk_parse_expr.specs.Exprs.{terms, terms_from, listed, listed_from, arguments, arguments_from, expr, inner_of}
use Rattle.smk_parse_expr.proofs.exprs.+expr.Given as goal

abbrev pub decreases-nested : goal.decreases-nested
decreases-nested l = 16 * l.depth + 6

abbrev pub decreases-terms : goal.decreases-terms
decreases-terms l = 16 * l.depth + 5

abbrev pub decreases-term : goal.decreases-term
decreases-term l = 16 * l.depth + 4

abbrev pub decreases-named : goal.decreases-named
decreases-named l = 16 * l.depth + 3

abbrev pub decreases-within : goal.decreases-within
decreases-within l = 16 * l.depth + 1

abbrev pub decreases-flagged : goal.decreases-flagged
decreases-flagged l = 16 * l.depth + 2

abbrev pub decreases-many : goal.decreases-many
decreases-many l = 16 * l.depth + 2

abbrev pub decreases-listed : goal.decreases-listed
decreases-listed l = 16 * l.depth + 7

abbrev pub decreases-expand : goal.decreases-expand
decreases-expand l = 16 * l.depth + 2

abbrev pub decreases-arguments : goal.decreases-arguments
decreases-arguments l = 16 * l.depth + 9

abbrev pub decreases-argument : goal.decreases-argument
decreases-argument l = 16 * l.depth + 8

abbrev pub invariant-terms-loop-turn : goal.invariant-terms-loop-turn
invariant-terms-loop-turn l = terms (inner_of l.depth) l.fn.first l.fn.cursor ≡ terms_from (inner_of l.depth) (l.turns - l._turn) l.found l.cursor

abbrev pub invariant-listed-loop-turn : goal.invariant-listed-loop-turn
invariant-listed-loop-turn l = listed (expr l.depth) l.fn.cursor ≡ listed_from (expr l.depth) (l._turn-end - l._turn) l.found l.cursor

abbrev pub invariant-arguments-loop-turn : goal.invariant-arguments-loop-turn
invariant-arguments-loop-turn l = arguments (expr l.depth) l.fn.cursor ≡ arguments_from (expr l.depth) (l._turn-end - l._turn) l.found l.cursor
