use Rattle.smk_plan_preview.proofs.Made.{linked_made}
use Rattle.smk_plan_preview.proofs.Telling.{linked_tell}
use Rattle.smk_plan_preview.proofs.links_tell.Goals as goal

pub returns : goal.returns
returns c = record { sources = linked_tell; made = linked_made }
