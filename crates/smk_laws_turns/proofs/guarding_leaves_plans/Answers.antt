use Rattle.smk_laws_turns.proofs.Before.{plan_before_guarding}
use Rattle.smk_laws_turns.proofs.guarding_leaves_plans.Goals as goal

pub returns : goal.returns
returns c = plan_before_guarding
