use Rattle.std.proofs.Common.{◌∙◌, length, arith}
use Rattle.smk_plan_live.proofs.Makers.{made_done, made_more}
use Rattle.smk_plan_live.proofs.making.made_among.Goals as goal

pub loop-number-preserved : goal.loop-number-preserved
loop-number-preserved c =
    record {
      each = c.push_maker.ensures.each ∙ c.loop-number.invariant.each;
      so_far =
          made_more (length c.args.jobs.now) c.args.makers.now c.loop-number.number c.index-makers-number.result c.loop-number.made.items c.push_maker.new.made.items
          c.index-makers-number.is c.loop-number.invariant.each c.in_ok-push_maker.ensures.set c.loop-number.invariant.so_far;
    }

pub returns : goal.returns
returns c =
    made_done c.args.jobs.now c.args.makers.now c.loop-number.number c.loop-number.made.items (omega (arith, c.loop-number-test.false)) c.loop-number.invariant.so_far
