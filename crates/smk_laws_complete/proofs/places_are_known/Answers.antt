use Rattle.smk_laws_complete.proofs.Filling.{places_are_known as all_known}
use Rattle.smk_laws_complete.proofs.places_are_known.Goals as goal

pub returns : goal.returns
returns c = all_known
