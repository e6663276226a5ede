use Rattle.smk_laws_moments.proofs.ChainsOn.{chain_goes_on, clear_goes_on, clear_stays}
use Rattle.smk_laws_moments.proofs.chains_go_on.Goals as goal

pub returns : goal.returns
returns c = record { chain = chain_goes_on; clear = clear_goes_on; looks = clear_stays }
