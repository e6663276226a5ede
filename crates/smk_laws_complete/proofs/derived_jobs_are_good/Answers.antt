use Rattle.smk_laws_complete.proofs.Goods.{derived_jobs_are_good, good_jobs_end_well}
use Rattle.smk_laws_complete.proofs.derived_jobs_are_good.Goals as goal

pub returns : goal.returns
returns c = record { good = derived_jobs_are_good; ends = good_jobs_end_well }
