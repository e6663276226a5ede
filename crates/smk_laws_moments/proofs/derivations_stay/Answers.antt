use Rattle.smk_laws_moments.proofs.Listed.{derivation_stays, listed_jobs_stay}
use Rattle.smk_laws_moments.proofs.derivations_stay.Goals as goal

pub returns : goal.returns
returns c = record { same = derivation_stays; listed = listed_jobs_stay }
