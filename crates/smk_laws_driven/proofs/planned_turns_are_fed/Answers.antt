use Rattle.smk_laws_driven.proofs.Planning.{planned_turns_are_arranged, planned_turns_are_fed}
use Rattle.smk_laws_driven.proofs.planned_turns_are_fed.Goals as goal

pub returns : goal.returns
returns c = record { fed = planned_turns_are_fed; arranged = planned_turns_are_arranged }
