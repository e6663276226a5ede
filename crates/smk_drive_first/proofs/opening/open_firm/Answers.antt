use Rattle.std.proofs.Common.{◌≡◌, true, ap, subst}
use Rattle.smk_record.specs.Records.{are_rising}
use Rattle.smk_world.proofs.Devices.{looked_as}
use Rattle.smk_store.specs.Images.{seen}
use Rattle.smk_plan_preview.specs.Faults.{device_failed}
use Rattle.smk_drive_first.specs.Keeping.{HasKeptLast}
use Rattle.smk_drive_first.proofs.opening.open_firm.Goals as goal

pub returns-in-Err-clause-looked : goal.returns-in-Err-clause-looked
returns-in-Err-clause-looked g c = looked_as (ap device_failed c.in-Err.is) c.chain.ensures.looked

pub returns-in-Err-clause-told : goal.returns-in-Err-clause-told
returns-in-Err-clause-told g c = λ w at none read reads.
    subst (HasKeptLast read c.args.flow.now c.args.settings.now (seen read w)) c.in-Err.is (c.chain.ensures.told w at none read reads)

pub returns-in-Ok-clause-looked : goal.returns-in-Ok-clause-looked
returns-in-Ok-clause-looked g c = c.in-Ok.ensures.looked

pub returns-in-Ok-clause-told : goal.returns-in-Ok-clause-told
returns-in-Ok-clause-told g c = λ w at none read reads.
    subst (HasKeptLast read c.args.flow.now c.args.settings.now (seen read w)) c.in-Ok.is (c.chain.ensures.told w at none read reads)

pub returns-in-Ok-clause-next : goal.returns-in-Ok-clause-next
returns-in-Ok-clause-next g c = record { is = c.next_serial.ensures; rising = subst (λ ps. are_rising ps ≡ true) c.paths-paths.ensures.value c.paths-paths.ensures.rising }
