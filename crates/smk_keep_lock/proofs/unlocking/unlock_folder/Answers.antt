use Rattle.std.proofs.Common.{refl, Ok, Err}
use Rattle.smk_world.proofs.Devices.{acted_as, acted_nothing}
use Rattle.smk_keep_lock.specs.declared.fault.UnlockFault.TheVariants.{Device, OutOfMemory}
use Rattle.smk_keep_lock.specs.Locking.{HasReleased}
use Rattle.smk_keep_lock.specs.Unlocking.{HasRemoved}
use Rattle.smk_keep_lock.proofs.Releasing.{none_removed, not_removed, put_device, removed}
use Rattle.smk_keep_lock.proofs.unlocking.unlock_folder.Goals as goal

pub returns-in_default-clause-acted : goal.returns-in_default-clause-acted
returns-in_default-clause-acted g c = acted_nothing g.W.Files.act (HasRemoved (Err OutOfMemory)) _ none_removed

pub returns-in_default-unlocked_line-clause-acted : goal.returns-in_default-unlocked_line-clause-acted
returns-in_default-unlocked_line-clause-acted g c = acted_nothing g.W.Files.act (HasRemoved (Err OutOfMemory)) _ none_removed

pub returns-in-Ok-release-clause-acted : goal.returns-in-Ok-release-clause-acted
returns-in-Ok-release-clause-acted g c =
    let result = c.put_line.result in
    acted_as g.W.Files.act (HasReleased (Ok tt)) (HasRemoved result) _ _ _ _ (put_device result c.put_line.ensures.only) (λ w es h. removed w es result c.put_line.ensures.only h)
    c.in-Ok-release.ensures

pub returns-clause-acted : goal.returns-clause-acted
returns-clause-acted g c =
    acted_as g.W.Files.act (HasReleased (Err c.in-Err.field-0)) (HasRemoved (Err Device)) _ _ _ _ refl (λ w es h. not_removed w es c.in-Err.field-0 h) c.in-Err.ensures
