use Rattle.std.proofs.Common.{◌≡◌, ◌-◌}
use Rattle.smk_parse_expr.specs.Items.{items, items_from}
use Rattle.smk_parse_expr.proofs.item_lists.items.Given as goal

abbrev pub invariant-loop-turn : goal.invariant-loop-turn
invariant-loop-turn l = items l.fn.cursor ≡ items_from (l._turn-end - l._turn) l.found l.cursor
