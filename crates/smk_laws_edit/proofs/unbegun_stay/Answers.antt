use Rattle.smk_laws_edit.proofs.Unbegun.{unbegun_stay}
use Rattle.smk_laws_edit.proofs.unbegun_stay.Goals as goal

pub returns : goal.returns
returns c = unbegun_stay
