use Rattle.smk_laws_plan.proofs.PlanOne.{one_plan, has_plan, one_last_plan}
use Rattle.smk_laws_plan.proofs.plan_is_one.Goals as goal

pub returns : goal.returns
returns c = record { one = one_plan; has = has_plan; last = one_last_plan }
