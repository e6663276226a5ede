use Rattle.std.proofs.Common.{ap, ◌∙◌, List, Option}
use Rattle.smk_base.specs.declared.sum.Sum.{Sum as Digest}
use Rattle.smk_digest.specs.Digests.{sum_failed}
use Rattle.smk_world.proofs.Devices.{looked_as}
use Rattle.smk_plan_look.proofs.Found.{sum_failed_as}
use Rattle.smk_plan_look.proofs.summing.sums_at.Goals as goal

pub returns-in-Err-clause-looked : goal.returns-in-Err-clause-looked
returns-in-Err-clause-looked g c =
    looked_as (ap sum_failed c.in-Err.is ∙ sum_failed_as (List (Option Digest)) (List (Option Digest)) c.in-Err.fault _ c.fault_of.ensures) c.sums.ensures.looked
