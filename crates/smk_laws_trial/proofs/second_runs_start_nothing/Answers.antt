use Rattle.smk_laws_trial.proofs.Next.{second_run_starts_nothing}
use Rattle.smk_laws_trial.proofs.second_runs_start_nothing.Goals as goal

pub returns : goal.returns
returns c = second_run_starts_nothing
