use Rattle.std.proofs.Common.{ap, sym, ◌∙◌, true≢false}
use Rattle.smk_world.proofs.Devices.{looked_as}
use Rattle.smk_store.specs.Images.{seen}
use Rattle.smk_plan_preview.specs.Faults.{device_failed}
use Rattle.smk_plan_preview.proofs.Agreed.{agree_of}
use Rattle.smk_drive_first.proofs.Kept.{kept_not}
use Rattle.smk_drive_first.proofs.rounds.plan_jobs.Goals as goal

pub returns-in-Err-clause-looked : goal.returns-in-Err-clause-looked
returns-in-Err-clause-looked g c = looked_as (ap device_failed c.in-Err.is) c.looked.ensures.looked

pub returns-in-Err-clause-told : goal.returns-in-Err-clause-told
returns-in-Err-clause-told g c = λ w at none read st ready.
    kept_not read c.args.flow.now c.args.settings.now (seen read w) c.args.jobs.lists c.in-Err.fault (λ told. absurd (true≢false (sym told ∙ c.in-Err.ensures.untold)))

pub returns-in-Ok-clause-looked : goal.returns-in-Ok-clause-looked
returns-in-Ok-clause-looked g c = looked_as (sym c.plan_seen.ensures.no_device) c.in-Ok.ensures.looked

pub returns-in-Ok-clause-told : goal.returns-in-Ok-clause-told
returns-in-Ok-clause-told g c = λ w at none read st ready.
    c.plan_seen.ensures.told (seen read w)
    (agree_of read w c.args.flow.now c.args.settings.now.targets _ c.args.jobs c.args.store c.in-Ok.seen ((g.met.W.Files.sound _).formed w at) st (c.in-Ok.ensures.told w at none read)
    (c.in-Ok.ensures.summed w at none read st ready.read) ready) ready read
