use Rattle.smk_laws_edit.proofs.Leaving.{done_stays_done}
use Rattle.smk_laws_edit.proofs.done_stays_done.Goals as goal

pub returns : goal.returns
returns c = done_stays_done
