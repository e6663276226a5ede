use Rattle.smk_laws_driven.proofs.Completing.{runs_are_complete}
use Rattle.smk_laws_driven.proofs.runs_are_complete.Goals as goal

pub returns : goal.returns
returns c = runs_are_complete
