use Rattle.smk_core.proofs.Shown.{done_has_ended, starts_after, starts_once}
use Rattle.smk_core.proofs.laws.jobs_start_in_order.Goals as goal

pub returns : goal.returns
returns c = record { once = starts_once; after = starts_after; ended = done_has_ended }
