use Rattle.smk_plan_states.specs.Ranking.{is_lacking}
use Rattle.smk_plan_states.proofs.Flags.{rows_past}
use Rattle.smk_plan_states.proofs.downward.any_lacking.Goals as goal

pub returns-in_default : goal.returns-in_default
returns-in_default c = rows_past is_lacking c.args.ranks.now c.args.outputs.now c.loop-i.i c.in_default.ensures.lookup.0 c.loop-i.invariant
