use Rattle.std.proofs.Common.{◌≡◌, ◌++◌, drop}
use Rattle.std.specs.Prelude.{if◌then◌else◌}
use Rattle.smk_parse_expr.specs.Printing as print
use Rattle.smk_parse_print.specs.Writing.{spaced}
use Rattle.smk_parse_print.proofs.Spaced.{more_items}
use Rattle.smk_parse_print.proofs.statements.items.Given as goal

abbrev pub invariant-loop-item : goal.invariant-loop-item
invariant-loop-item l =
    let rest = drop l.item-index l.items in
    l.out.items ++ spaced (if l.behind then more_items rest else print.printed_items rest) ≡ l.fn.out.items ++ spaced (print.printed_items l.items)
