use Rattle.smk_plan_facts.proofs.FactsTold.{facts_so}
use Rattle.smk_plan_facts.proofs.WholesTold.{wholes_so}
use Rattle.smk_plan_facts.proofs.told_is_so.Goals as goal

pub returns : goal.returns
returns c = record { facts = facts_so; wholes = wholes_so }
