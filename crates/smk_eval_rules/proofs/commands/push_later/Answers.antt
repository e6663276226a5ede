use Rattle.smk_eval_rules.proofs.Placed.{later_more}
use Rattle.smk_eval_rules.proofs.commands.push_later.Goals as goal

pub loop-place-preserved : goal.loop-place-preserved
loop-place-preserved c = later_more _ _ _ _ c.loop-place.place c.args.end c.loop-place-test.true c.in_ok-push_place.ensures c.in_ok-push_str.ensures.bytes c.loop-place.invariant
