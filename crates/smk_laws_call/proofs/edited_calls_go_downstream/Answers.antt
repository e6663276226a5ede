use Rattle.smk_safe.proofs.CleanAtExit.{run_leaves_all_clean}
use Rattle.smk_clean.proofs.Ended.{drives_end}
use Rattle.smk_clean.proofs.Ending.{call_leaves_none}
use Rattle.smk_clean.proofs.Serving.{call_is_safe}
use Rattle.smk_laws_call.proofs.Edited.{edited_plans_downstream}
use Rattle.smk_laws_call.proofs.Turned.{edited_turns_downstream}
use Rattle.smk_laws_call.proofs.edited_calls_go_downstream.Goals as goal

pub returns-clause-plan : goal.returns-clause-plan
returns-clause-plan c = edited_plans_downstream (call_leaves_none run_leaves_all_clean drives_end) call_is_safe

pub returns-clause-turns : goal.returns-clause-turns
returns-clause-turns c = edited_turns_downstream (call_leaves_none run_leaves_all_clean drives_end) call_is_safe
