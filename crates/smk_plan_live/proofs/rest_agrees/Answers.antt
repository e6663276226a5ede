use Rattle.smk_plan_live.proofs.Resting.{agrees_at_rest}
use Rattle.smk_plan_live.proofs.rest_agrees.Goals as goal

pub returns : goal.returns
returns c = agrees_at_rest
