use Rattle.smk_laws_driven.proofs.Succeeding.{driven_succeeds}
use Rattle.smk_laws_driven.proofs.driven_succeeds.Goals as goal

pub returns : goal.returns
returns c = driven_succeeds
