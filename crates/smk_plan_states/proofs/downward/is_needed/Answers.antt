use Rattle.smk_plan_states.specs.Ranking.{is_needed_output}
use Rattle.smk_plan_states.proofs.Flags.{gone_past}
use Rattle.smk_plan_states.proofs.downward.is_needed.Goals as goal

pub returns-in_default : goal.returns-in_default
returns-in_default c = gone_past (is_needed_output c.args.needed.now) c.args.outputs.now c.args.flags.now c.loop-i.i c.in_default.ensures.lookup.0 c.loop-i.invariant
