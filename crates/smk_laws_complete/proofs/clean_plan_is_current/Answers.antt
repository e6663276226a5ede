use Rattle.smk_laws_complete.proofs.Ends.{clean_plan_is_current}
use Rattle.smk_laws_complete.proofs.clean_plan_is_current.Goals as goal

pub returns : goal.returns
returns c = clean_plan_is_current
