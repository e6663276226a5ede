use Rattle.smk_laws_driven.proofs.GrownWhole.{growing_faults_are_named}
use Rattle.smk_laws_driven.proofs.growing_faults_are_named.Goals as goal

pub returns : goal.returns
returns c = growing_faults_are_named
