use Rattle.smk_laws_begins.proofs.Ended.{ends_well}
use Rattle.smk_laws_begins.proofs.idle_runs_end_well.Goals as goal

pub returns : goal.returns
returns c = ends_well
