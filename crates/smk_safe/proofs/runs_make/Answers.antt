use Rattle.smk_safe.proofs.Clean.{done_run_is_clean}
use Rattle.smk_safe.proofs.Running.{done_turns_leave}
use Rattle.smk_safe.proofs.runs_make.Goals as goal

pub returns-clause-make : goal.returns-clause-make
returns-clause-make c = done_turns_leave

pub returns-clause-clean : goal.returns-clause-clean
returns-clause-clean c = done_run_is_clean
