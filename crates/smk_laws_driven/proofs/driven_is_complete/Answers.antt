use Rattle.smk_laws_driven.proofs.Complete.{driven_is_complete}
use Rattle.smk_laws_driven.proofs.driven_is_complete.Goals as goal

pub returns : goal.returns
returns c = driven_is_complete
