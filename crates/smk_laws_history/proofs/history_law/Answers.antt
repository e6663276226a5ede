use Rattle.smk_laws_history.proofs.HistoryLaw.{every_world_sound, every_world_tree, every_world_listed, versions_differ}
use Rattle.smk_laws_history.proofs.HistoryListedForgetting.{forgetting_is_call}
use Rattle.smk_laws_history.proofs.HistoryListedRuns.{run_is_call}
use Rattle.smk_laws_history.proofs.history_law.Goals as goal

pub returns : goal.returns
returns c = record { differ = versions_differ; sound = every_world_sound; tree = every_world_tree; listed = every_world_listed; run = run_is_call; forgetting = forgetting_is_call }
