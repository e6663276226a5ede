use Rattle.smk_plan_live.proofs.live.LivePlan.current.Goals as goal

pub returns-clause-now : goal.returns-clause-now
returns-clause-now c = λ live image agrees. (live.now image agrees).made
