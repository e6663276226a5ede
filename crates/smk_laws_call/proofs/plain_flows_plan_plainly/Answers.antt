use Rattle.smk_laws_call.proofs.Plain.{plain_flows_gather_alone, plain_flows_plan_plainly}
use Rattle.smk_laws_call.proofs.plain_flows_plan_plainly.Goals as goal

pub returns : goal.returns
returns c = record { plans = plain_flows_plan_plainly; flows = plain_flows_gather_alone }
