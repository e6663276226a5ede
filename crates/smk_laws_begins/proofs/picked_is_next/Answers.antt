use Rattle.smk_laws_begins.proofs.Picked.{picked_is_next}
use Rattle.smk_laws_begins.proofs.picked_is_next.Goals as goal

pub returns : goal.returns
returns c = picked_is_next
