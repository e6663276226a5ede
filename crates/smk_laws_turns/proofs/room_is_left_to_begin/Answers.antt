use Rattle.smk_laws_turns.proofs.RoomToBegin.{room_begun, room_to_begin, unowned_to_read}
use Rattle.smk_laws_turns.proofs.room_is_left_to_begin.Goals as goal

pub returns : goal.returns
returns c = record { begins = room_to_begin; begun = room_begun; reads = unowned_to_read }
