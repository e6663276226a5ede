use Rattle.smk_laws_complete.proofs.Chains.{chains_end}
use Rattle.smk_laws_complete.proofs.Stops.{clean_targets_are_planned}
use Rattle.smk_laws_complete.proofs.clean_targets_are_planned.Goals as goal

pub returns : goal.returns
returns c = record { planned = clean_targets_are_planned; end = chains_end }
