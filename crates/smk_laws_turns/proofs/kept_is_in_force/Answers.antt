use Rattle.smk_laws_turns.proofs.InForce.{kept_is_last, kept_is_unrefused}
use Rattle.smk_laws_turns.proofs.kept_is_in_force.Goals as goal

pub returns-clause-last : goal.returns-clause-last
returns-clause-last c = kept_is_last

pub returns-clause-unrefused : goal.returns-clause-unrefused
returns-clause-unrefused c = kept_is_unrefused
