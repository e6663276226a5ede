use Rattle.std.proofs.Common.{ap}
use Rattle.smk_world.proofs.Devices.{looked_as}
use Rattle.smk_plan_preview.specs.Faults.{device_failed}
use Rattle.smk_plan_preview.proofs.Previews.{previewed, unpreviewed}
use Rattle.smk_plan_preview.proofs.previewing.preview_stored.Goals as goal

pub returns-in-Ok-clause-looked : goal.returns-in-Ok-clause-looked
returns-in-Ok-clause-looked g c = c.in-Ok.ensures.looked

pub returns-in-Ok-clause-told : goal.returns-in-Ok-clause-told
returns-in-Ok-clause-told g c = λ w at none read st. previewed read _ _ _ c.args.store c.chain.result c.in-Ok.last c.in-Ok.is st (c.chain.ensures.told w at none read st)

pub returns-in-Err-clause-looked : goal.returns-in-Err-clause-looked
returns-in-Err-clause-looked g c = looked_as (ap device_failed c.in-Err.is) c.chain.ensures.looked

pub returns-in-Err-clause-told : goal.returns-in-Err-clause-told
returns-in-Err-clause-told g c = λ w at none read st. unpreviewed read _ _ _ c.chain.result c.in-Err.fault c.in-Err.is (c.chain.ensures.told w at none read st)

pub returns-in-Ok-clause-good : goal.returns-in-Ok-clause-good
returns-in-Ok-clause-good g c = c.in-Ok.ensures.good
