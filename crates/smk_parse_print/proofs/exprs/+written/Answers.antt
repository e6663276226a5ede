use Rattle.std.proofs.Common.{◌∷◌, []}
use Rattle.std.proofs.lemmas.Result.{on_ok_weaker}
use Rattle.smk_parse_expr.specs.declared.symbol.Symbol.TheVariants as s
use Rattle.smk_parse_expr.specs.declared.symbol.Sign.TheVariants.{Open, Close}
use Rattle.smk_parse_expr.specs.Printing as print
use Rattle.std.specs.Prelude.{codes}
use Rattle.smk_parse_print.proofs.Spaced.{arguments-step, many-step, sum-step, three, expand-ends}
use Rattle.smk_parse_print.proofs.exprs.+written.Goals as goal

pub arguments-loop-item-preserved : goal.arguments-loop-item-preserved
arguments-loop-item-preserved t c =
    arguments-step c.args.items.now c.loop-item.item-index c.item-item.result c.as_str.result.now _ _ _ _ c.loop-item-test.true c.item-item.is c.as_str.ensures c.loop-item.invariant c.in_ok-symbols.ensures c.in_ok-expr.ensures

pub expand-returns : goal.expand-returns
expand-returns t c =
    on_ok_weaker c.arguments.result
    (λ h.
    expand-ends c.args.form.now c.get.result.now c.as_slice.result.now c.args.out.now.items _ _ _ _ (s.Name 0 (codes "expand") ∷ s.Sign 0 Open ∷ []) c.get.ensures c.as_slice.ensures
    c.in_ok-symbols.ensures c.in_ok-expr.ensures c.in_ok-zip.ensures h) c.arguments.ensures

pub flagged-returns : goal.flagged-returns
flagged-returns t c =
    on_ok_weaker c.symbols-2.result
    (λ h.
    three c.args.out.now.items _ _ _ (s.Name 0 c.args.flag.now ∷ s.Sign 0 Open ∷ []) (print.printed c.args.inner.now).symbols (s.Sign 0 Close ∷ []) c.in_ok-symbols.ensures c.in_ok-expr.ensures h) c.symbols-2.ensures

pub many-loop-part-preserved : goal.many-loop-part-preserved
many-loop-part-preserved t c =
    many-step c.args.parts.now c.loop-part.part-index c.part-item.result _ _ _ _ c.loop-part-test.true c.part-item.is c.loop-part.invariant c.in_ok-expr.ensures c.in_ok-symbols-2.ensures

pub sum-loop-part-preserved : goal.sum-loop-part-preserved
sum-loop-part-preserved t c =
    sum-step c.args.parts.now c.loop-part.part-index c.part-item.result c.loop-part.behind c.is_sum.result c.is_sum-in-loop-part.result _ _ _ _ _ _ c.loop-part-test.true c.part-item.is c.loop-part.invariant
    c.is_sum.ensures c.is_sum-in-loop-part.ensures c.in_ok-sign_if.ensures c.in_ok-sign_if-2.ensures c.in_ok-expr.ensures c.in_ok-sign_if-3.ensures
