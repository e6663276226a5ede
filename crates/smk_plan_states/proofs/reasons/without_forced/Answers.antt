use Rattle.smk_plan_states.proofs.Steps.{alone_off}
use Rattle.smk_plan_states.proofs.reasons.without_forced.Goals as goal

pub returns-in-Some : goal.returns-in-Some
returns-in-Some c = alone_off c.args.forced c.args.own.now c.in-Some.alone.now _ c.if-not-forced.false c.in-Some.ensures.cases.0
