use Rattle.std.proofs.Common.{ap, sym, ◌∙◌, true≢false}
use Rattle.smk_world.proofs.Devices.{looked_as}
use Rattle.smk_plan_preview.specs.Faults.{device_failed}
use Rattle.smk_drive_more.proofs.looking.look_at.Goals as goal

pub returns-in-Ok-clause-looked : goal.returns-in-Ok-clause-looked
returns-in-Ok-clause-looked g c = c.in-Ok.ensures.looked

pub returns-in-Ok-clause-told : goal.returns-in-Ok-clause-told
returns-in-Ok-clause-told g c = λ w at read st ready sourced.
    record { stored = st; ready = ready; sourced = sourced; saw = c.in-Ok.ensures.told w at read; summed = c.in-Ok.ensures.summed w at read st }

pub returns-in-Err-clause-looked : goal.returns-in-Err-clause-looked
returns-in-Err-clause-looked g c = looked_as (ap device_failed c.in-Err.is) c.looked.ensures.looked

pub returns-in-Err-clause-told : goal.returns-in-Err-clause-told
returns-in-Err-clause-told g c = λ w at read st ready sourced told. absurd (true≢false (sym told ∙ c.in-Err.ensures.untold))
