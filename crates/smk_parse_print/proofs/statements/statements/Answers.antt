use Rattle.smk_parse_print.proofs.Rowed.{statements-step}
use Rattle.smk_parse_print.proofs.statements.statements.Goals as goal

pub loop-one-preserved : goal.loop-one-preserved
loop-one-preserved c = statements-step c.args.all.now c.loop-one.one-index c.one-item.result _ _ _ c.loop-one-test.true c.one-item.is c.loop-one.invariant c.in_ok-statement.ensures
