use Rattle.smk_laws_turns.proofs.Deriving.{derivation_goes_on}
use Rattle.smk_laws_turns.proofs.derivations_go_on.Goals as goal

pub returns : goal.returns
returns c = derivation_goes_on
