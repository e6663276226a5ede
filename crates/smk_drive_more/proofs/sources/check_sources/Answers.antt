use Rattle.std.proofs.Common.{sym, ◌∙◌}
use Rattle.smk_world.proofs.Devices.{looked_as}
use Rattle.smk_drive_more.proofs.Sure.{all_sources, failed_as}
use Rattle.smk_drive_more.proofs.sources.check_sources.Goals as goal

pub returns-in-Ok-clause-looked : goal.returns-in-Ok-clause-looked
returns-in-Ok-clause-looked g c = looked_as (sym c.if_all.ensures.no_device) c.in-Ok.ensures.looked

pub returns-in-Ok-clause-told : goal.returns-in-Ok-clause-told
returns-in-Ok-clause-told g c = all_sources c.in-Ok.are c.if_all.result (g.W.Files.device c.args.work.now) c.args.store.now _ _ c.if_all.ensures.all c.in-Ok.ensures.told c.as_slice.ensures

pub returns-in-Err-clause-looked : goal.returns-in-Err-clause-looked
returns-in-Err-clause-looked g c =
    looked_as (failed_as c.are_made_or_sources.result c.in-Err.why c.in-Err.is ∙ sym c.fault_of.ensures.same) c.are_made_or_sources.ensures.looked
