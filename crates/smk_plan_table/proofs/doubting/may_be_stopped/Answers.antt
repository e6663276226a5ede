use Rattle.std.proofs.Common.{◌∙◌, drop, sym}
use Rattle.smk_plan_table.proofs.Doubted.{stopped_end}
use Rattle.smk_plan_table.proofs.doubting.may_be_stopped.Goals as goal

pub returns-in_default : goal.returns-in_default
returns-in_default c = sym (c.loop-rank.invariant ∙ stopped_end (drop c.loop-rank.rank-index c.args.ranks.now) c.loop-rank.rest.now c.in_default.ensures.cases)
