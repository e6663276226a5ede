use Rattle.smk_chain_derive.proofs.Spots.{job_spots}
use Rattle.smk_chain_derive.proofs.spot.push_job.Goals as goal

pub returns : goal.returns
returns c = job_spots _ _ _ _ _ c.args.job.now c.in_ok-push_items.ensures c.in_ok-push_logs.ensures c.as_slice.ensures c.as_slice-2.ensures
