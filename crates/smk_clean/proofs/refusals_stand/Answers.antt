use Rattle.smk_clean.proofs.Standing.{plan_refusal_stands, refusal_stands}
use Rattle.smk_clean.proofs.refusals_stand.Goals as goal

pub returns : goal.returns
returns c = record { stands = refusal_stands; plan = plan_refusal_stands }
