use Rattle.smk_laws_closes.proofs.Endings.{ends_as_closed}
use Rattle.smk_laws_closes.proofs.jobs_end_as_closed.Goals as goal

pub returns : goal.returns
returns c = ends_as_closed
