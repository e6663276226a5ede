use Rattle.smk_laws_moments.proofs.ChainsOn.{next_is_unrefused}
use Rattle.smk_laws_moments.proofs.next_is_unrefused.Goals as goal

pub returns : goal.returns
returns c = next_is_unrefused
