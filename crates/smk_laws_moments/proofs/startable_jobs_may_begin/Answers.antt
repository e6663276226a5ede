use Rattle.smk_laws_moments.proofs.Starting.{opening_stays, startable_may_begin}
use Rattle.smk_laws_moments.proofs.startable_jobs_may_begin.Goals as goal

pub returns : goal.returns
returns c = record { begins = startable_may_begin; stays = opening_stays }
