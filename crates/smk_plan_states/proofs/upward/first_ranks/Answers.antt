use Rattle.std.proofs.Common.{arith, ap, length, length-append}
use Rattle.smk_plan_states.specs.Rows.{reasons_at}
use Rattle.smk_plan_states.specs.Stays.{IsByEarlier, told_by}
use Rattle.smk_plan_states.proofs.ByRank.{first_step, first_done}
use Rattle.smk_plan_states.proofs.Steps.{all_lines, first_by_all, first_more}
use Rattle.smk_plan_states.proofs.upward.first_ranks.Goals as goal

pub loop-number-preserved : goal.loop-number-preserved
loop-number-preserved c =
    record {
      each = omega (arith, c.loop-number.invariant.each, simp length-append at (ap length c.in_ok-push.ensures.items));
      so_far = λ at jobs states h.
          first_step at jobs states c.args.lines.now c.args.origins.now c.args.rows.now c.args.used.now h c.loop-number.number c.index-lines-number.result c.flag_at.result c.in-Some.rank
          c.loop-number.ranks.items c.as_slice.result.now c.push.new.self.items c.loop-number-test.true c.index-lines-number.is c.flag_at.ensures c.as_slice.ensures.value (c.in-Some.ensures (reasons_at at jobs) h.told.own)
          c.in_ok-push.ensures.items (c.loop-number.invariant.so_far at jobs states h);
      told = λ reasons forced fits.
          first_more c.args.lines.now c.args.origins.now (told_by c.args.rows.now reasons forced) c.args.used.now c.loop-number.number c.index-lines-number.result c.flag_at.result c.in-Some.rank
          c.loop-number.ranks.items c.as_slice.result.now c.push.new.self.items c.loop-number-test.true c.index-lines-number.is c.flag_at.ensures c.as_slice.ensures.value
          (c.in-Some.ensures reasons fits) c.in_ok-push.ensures.items c.loop-number.invariant.each (c.loop-number.invariant.told reasons forced fits);
    }

pub returns-clause-ranks : goal.returns-clause-ranks
returns-clause-ranks c = λ at jobs states h.
    first_done at jobs states c.args.lines.now c.args.origins.now c.args.rows.now c.args.used.now h c.loop-number.number c.loop-number.ranks.items (omega (arith, c.loop-number-test.false))
    (c.loop-number.invariant.so_far at jobs states h)

pub returns-clause-told : goal.returns-clause-told
returns-clause-told c = λ reasons forced fits earlier.
    first_by_all c.args.lines.now c.args.origins.now (told_by c.args.rows.now reasons forced) c.args.used.now c.loop-number.ranks.items (omega (arith, c.loop-number-test.false, c.loop-number.invariant.each))
    (all_lines c.args.lines.now (IsByEarlier c.args.origins.now (told_by c.args.rows.now reasons forced) c.args.used.now c.loop-number.ranks.items) c.loop-number.number (omega (arith, c.loop-number-test.false))
    (c.loop-number.invariant.told reasons forced fits))
    earlier
