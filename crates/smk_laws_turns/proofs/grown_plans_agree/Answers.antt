use Rattle.smk_laws_turns.proofs.GrownAgreeing.{growth_agrees}
use Rattle.smk_laws_turns.proofs.GrownAlike.{growth_is_alike}
use Rattle.smk_laws_turns.proofs.grown_plans_agree.Goals as goal

pub returns-clause-agrees : goal.returns-clause-agrees
returns-clause-agrees c = growth_agrees

pub returns-clause-alike : goal.returns-clause-alike
returns-clause-alike c = growth_is_alike
