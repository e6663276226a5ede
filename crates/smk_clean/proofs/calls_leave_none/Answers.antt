use Rattle.smk_safe.proofs.CleanAtExit.{run_leaves_all_clean}
use Rattle.smk_clean.proofs.Again.{next_starts_nothing}
use Rattle.smk_clean.proofs.Ended.{drives_end}
use Rattle.smk_clean.proofs.Ending.{call_leaves_none}
use Rattle.smk_clean.proofs.calls_leave_none.Goals as goal

pub returns-clause-clean : goal.returns-clause-clean
returns-clause-clean c = call_leaves_none run_leaves_all_clean drives_end

pub returns-clause-again : goal.returns-clause-again
returns-clause-again c = next_starts_nothing run_leaves_all_clean drives_end
