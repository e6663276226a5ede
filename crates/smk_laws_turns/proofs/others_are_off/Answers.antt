use Rattle.smk_laws_turns.proofs.Off.{paths_are_off, signs_are_off}
use Rattle.smk_laws_turns.proofs.others_are_off.Goals as goal

pub returns-clause-paths : goal.returns-clause-paths
returns-clause-paths c = paths_are_off

pub returns-clause-signs : goal.returns-clause-signs
returns-clause-signs c = signs_are_off
