use Rattle.smk_laws_driven.proofs.GrownWhole.{growing_is_complete}
use Rattle.smk_laws_driven.proofs.growing_is_complete.Goals as goal

pub returns : goal.returns
returns c = growing_is_complete
