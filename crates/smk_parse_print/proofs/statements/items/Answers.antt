use Rattle.smk_parse_print.proofs.Rowed.{items-step}
use Rattle.smk_parse_print.proofs.statements.items.Goals as goal

pub loop-item-preserved : goal.loop-item-preserved
loop-item-preserved c =
    items-step c.args.items.now c.loop-item.item-index c.item-item.result c.loop-item.behind c.as_str.result.now _ _ _ _ _ c.loop-item-test.true c.item-item.is c.as_str.ensures c.loop-item.invariant
    c.in_ok-sign_if.ensures c.in_ok-label.ensures c.in_ok-expr.ensures
