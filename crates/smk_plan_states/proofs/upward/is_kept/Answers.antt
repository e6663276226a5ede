use Rattle.smk_plan_states.specs.declared.lines.Output.{Output}
use Rattle.smk_plan_states.proofs.Flags.{gone_past}
use Rattle.smk_plan_states.proofs.upward.is_kept.Goals as goal

pub returns-in_default : goal.returns-in_default
returns-in_default c = gone_past (λ (o : Output). o.wanted) c.args.outputs.now c.args.flags.now c.loop-i.i c.in_default.ensures.lookup.0 c.loop-i.invariant
