use Rattle.smk_laws_complete.proofs.Filling.{places_fill_by_name as all_fill}
use Rattle.smk_laws_complete.proofs.places_fill_by_name.Goals as goal

pub returns : goal.returns
returns c = all_fill
