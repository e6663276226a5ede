use Rattle.smk_laws_begins.proofs.Begun.{opened_is_at}
use Rattle.smk_laws_begins.proofs.opened_runs_begin.Goals as goal

pub returns : goal.returns
returns c = opened_is_at
