use Rattle.smk_plan_states.proofs.Linked.{linked_are_served}
use Rattle.smk_plan_states.proofs.laws.linked_jobs_serve.Goals as goal

pub returns : goal.returns
returns c = linked_are_served
