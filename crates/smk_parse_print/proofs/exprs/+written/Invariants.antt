use Rattle.std.proofs.Common.{◌≡◌, ◌++◌, map, drop}
use Rattle.std.specs.Prelude.{if◌then◌else◌}
use Rattle.smk_parse_tree.specs.declared.syntax.Expr.TheOpen.{Expr-F}
use Rattle.smk_parse_expr.specs.Printing as print
use Rattle.smk_parse_print.specs.Parts as parts
use Rattle.smk_parse_print.specs.Writing.{spaced}
use Rattle.smk_parse_print.proofs.exprs.+written.Given as goal

abbrev pub invariant-many-loop-part : goal.invariant-many-loop-part
invariant-many-loop-part l =
    l.out.items ++ spaced (print.printed_list (map print.printed (drop l.part-index l.parts))) ≡ l.fn.out.items ++ spaced (print.expr_step (Expr-F.Many (map print.printed l.parts))).symbols

abbrev pub invariant-sum-loop-part : goal.invariant-sum-loop-part
invariant-sum-loop-part l =
    let rest = map print.printed (drop l.part-index l.parts) in
    l.out.items ++ spaced (if l.behind then print.printed_tail rest else print.printed_sum rest) ≡ l.fn.out.items ++ spaced (print.printed_sum (map print.printed l.parts))

abbrev pub invariant-arguments-loop-item : goal.invariant-arguments-loop-item
invariant-arguments-loop-item l =
    l.out.items ++ spaced (print.printed_arguments (map parts.printed_part (drop l.item-index l.items))) ≡ l.fn.out.items ++ spaced (print.printed_arguments (map parts.printed_part l.items))
