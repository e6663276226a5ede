use Rattle.smk_core.proofs.Shown.{begins_within, stays_within}
use Rattle.smk_core.proofs.laws.room_is_kept.Goals as goal

pub returns : goal.returns
returns c = record { begins = begins_within; stays = stays_within }
