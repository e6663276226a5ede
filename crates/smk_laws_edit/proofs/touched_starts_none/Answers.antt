use Rattle.smk_laws_edit.proofs.Touched.{touched_starts_none}
use Rattle.smk_laws_edit.proofs.touched_starts_none.Goals as goal

pub returns : goal.returns
returns c = touched_starts_none
