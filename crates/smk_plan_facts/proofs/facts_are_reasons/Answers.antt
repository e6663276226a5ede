use Rattle.smk_plan_facts.proofs.Reasoned.{facts_reason}
use Rattle.smk_plan_facts.proofs.facts_are_reasons.Goals as goal

pub returns : goal.returns
returns c = facts_reason
