use Rattle.smk_laws_edit.proofs.FirstStart.{first_start}
use Rattle.smk_laws_edit.proofs.first_start_is_downstream.Goals as goal

pub returns : goal.returns
returns c = first_start
