use Rattle.smk_clean.proofs.Quiet.{driven_starts_none}
use Rattle.smk_clean.proofs.Removing.{spent_keeps_plan}
use Rattle.smk_clean.proofs.clean_runs_start_none.Goals as goal

pub returns : goal.returns
returns c = record { starts = driven_starts_none; stays = spent_keeps_plan }
