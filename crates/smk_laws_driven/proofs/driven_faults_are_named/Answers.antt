use Rattle.smk_laws_driven.proofs.Whole.{driven_faults_are_named}
use Rattle.smk_laws_driven.proofs.driven_faults_are_named.Goals as goal

pub returns : goal.returns
returns c = driven_faults_are_named
