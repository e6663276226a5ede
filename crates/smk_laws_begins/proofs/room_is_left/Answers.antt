use Rattle.smk_laws_begins.proofs.Spaced.{room_left}
use Rattle.smk_laws_begins.proofs.room_is_left.Goals as goal

pub returns : goal.returns
returns c = room_left
