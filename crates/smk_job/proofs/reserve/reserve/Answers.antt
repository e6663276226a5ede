use Rattle.smk_job.proofs.Outs.{owned_from}
use Rattle.smk_job.proofs.reserve.reserve.Goals as goal

pub returns : goal.returns
returns c =
    let both = owned_from c.args.job.now.recipe c.args.job.now.logs _ c.in_ok-ready.ready.outs _ _ c.in_ok-ready.ensures.0.rest.outputs c.as_slice.ensures c.as_slice-2.ensures c.in_ok-owned.ensures in
    (c.in_ok-ready.ensures.0, c.in_ok-ready.ensures.1, both.0, both.1)
