use Rattle.smk_laws_turns.proofs.RoomToClose.{room_to_close, unowned_to_look}
use Rattle.smk_laws_turns.proofs.room_is_left_to_close.Goals as goal

pub returns : goal.returns
returns c = record { closes = room_to_close; looks = unowned_to_look }
