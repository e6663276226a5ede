use Rattle.smk_plan_live.proofs.limits.limits_of.Goals as goal

pub returns : goal.returns
returns c =
    record { priorities = c.top_of-top.ensures; threads = c.least_of-least.ensures; temporary = c.any_temporary-temporary.ensures }
