use Rattle.std.proofs.Common.{arith}
use Rattle.smk_choose.proofs.Kept.{one_indexed, all_indexed}
use Rattle.smk_choose.proofs.index.indexed.Goals as goal

pub loop-number-preserved : goal.loop-number-preserved
loop-number-preserved c =
    one_indexed c.args.rules.now c.loop-number.number c.index-rules-number.result c.as_slice.result.now c.loop-number.index c.add_outputs.new.index c.loop-number-test.true c.index-rules-number.is
    c.as_slice.ensures c.loop-number.invariant c.in_ok-add_outputs.ensures

pub returns : goal.returns
returns c = all_indexed c.args.rules.now c.loop-number.number c.loop-number.index (omega (arith, c.loop-number-test.false)) c.loop-number.invariant
