use Rattle.smk_safe.proofs.CleanAtExit.{run_leaves_all_clean}
use Rattle.smk_safe.proofs.KeptAtExit.{kept_jobs_stay_clean}
use Rattle.smk_safe.proofs.Needed.{done_jobs_are_kept}
use Rattle.smk_safe.proofs.Left.{same_derivation_at_exit}
use Rattle.smk_safe.proofs.runs_leave_all_clean.Goals as goal

pub returns : goal.returns
returns c = record { derived = same_derivation_at_exit; clean = run_leaves_all_clean; kept = kept_jobs_stay_clean; done = done_jobs_are_kept }
