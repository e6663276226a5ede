use Rattle.smk_safe.proofs.CleanAtExit.{run_leaves_all_clean}
use Rattle.smk_clean.proofs.Ended.{drives_end}
use Rattle.smk_clean.proofs.Ending.{call_leaves_none}
use Rattle.smk_clean.proofs.Serving.{call_is_safe}
use Rattle.smk_laws_call.proofs.SameBytes.{same_bytes_touch}
use Rattle.smk_laws_call.proofs.Touched.{touched_leaves_none, touched_starts_nothing}
use Rattle.smk_laws_call.proofs.touched_calls_start_nothing.Goals as goal

pub returns-clause-clean : goal.returns-clause-clean
returns-clause-clean c = touched_leaves_none (call_leaves_none run_leaves_all_clean drives_end) call_is_safe

pub returns-clause-again : goal.returns-clause-again
returns-clause-again c = touched_starts_nothing (call_leaves_none run_leaves_all_clean drives_end) call_is_safe

pub returns-clause-touch : goal.returns-clause-touch
returns-clause-touch c = same_bytes_touch (call_leaves_none run_leaves_all_clean drives_end) call_is_safe
