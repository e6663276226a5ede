use Rattle.smk_laws_history.proofs.MoreListings.{inputs_come_first, keeps_jobs, keeps_unopened}
use Rattle.smk_laws_history.proofs.jobs_stay.Goals as goal

pub returns : goal.returns
returns c = record { order = inputs_come_first; go_on = keeps_jobs; stay = keeps_unopened }
