use Rattle.smk_safe.proofs.CleanAtExit.{run_leaves_all_clean}
use Rattle.smk_clean.proofs.Ended.{drives_end}
use Rattle.smk_clean.proofs.Ending.{call_is_clean}
use Rattle.smk_clean.proofs.calls_are_clean.Goals as goal

pub returns : goal.returns
returns c = call_is_clean run_leaves_all_clean drives_end
