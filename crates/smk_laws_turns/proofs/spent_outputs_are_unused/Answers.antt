use Rattle.smk_laws_turns.proofs.RoomToSpend.{room_to_spend, room_to_spend_on}
use Rattle.smk_laws_turns.proofs.spent_outputs_are_unused.Goals as goal

pub returns : goal.returns
returns c = record { spends = room_to_spend; more = room_to_spend_on }
