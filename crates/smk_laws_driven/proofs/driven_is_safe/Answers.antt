use Rattle.smk_laws_driven.proofs.Safe.{driven_is_safe}
use Rattle.smk_laws_driven.proofs.driven_is_safe.Goals as goal

pub returns : goal.returns
returns c = driven_is_safe
