use Rattle.std.proofs.Common.{ap}
use Rattle.smk_world.proofs.Devices.{looked_as}
use Rattle.smk_plan_preview.specs.Faults.{device_failed}
use Rattle.smk_drive_first.proofs.Opens.{not_loaded, opened_so}
use Rattle.smk_drive_first.proofs.opening.open.Goals as goal

pub returns-in-Ok-clause-opened : goal.returns-in-Ok-clause-opened
returns-in-Ok-clause-opened g c =
    let e = c.open_stored.ensures in
    opened_so g.W.Files.act c.args.flow.now c.args.settings.now _ _ _ c.in-Ok.store c.open_stored.result c.in-Ok.ensures.looked c.in-Ok.ensures.told e.acted e.no_sink e.fresh e.next

pub returns-in-Err-clause-opened : goal.returns-in-Err-clause-opened
returns-in-Err-clause-opened g c =
    not_loaded g.W.Files.act c.args.flow.now c.args.settings.now _ _ c.in-Err.fault c.in-Err.ensures.untold c.in-Err.ensures.no_sink
    (looked_as (ap device_failed c.in-Err.is) c.stored.ensures.looked)
