use Rattle.smk_drive_hub.specs.Keeping.{parts_of}
use Rattle.smk_laws_begins.proofs.Entering.{entered, unentered, unopened}
use Rattle.smk_drive_run.proofs.entering.enter.Goals as goal

pub returns-in-Ok-start_of : goal.returns-in-Ok-start_of
returns-in-Ok-start_of g c =
    entered g.W.Files.act c.args.flow.now c.args.settings.now _ _ c.open.result c.in-Ok.opened (parts_of c.in-Ok-start_of.hub) c.in-Ok.is
    c.open.ensures.opened c.in-Ok.ensures.fresh.live c.in-Ok-start_of.ensures.seen_so c.in-Ok-start_of.ensures.start

pub returns-in-Err-start_of : goal.returns-in-Err-start_of
returns-in-Err-start_of g c =
    unentered g.W.Files.act c.args.flow.now c.args.settings.now _ _ c.open.result c.in-Ok.opened c.in-Ok.is c.open.ensures.opened

pub returns-in-Err : goal.returns-in-Err
returns-in-Err g c =
    unopened g.W.Files.act c.args.flow.now c.args.settings.now _ _ c.open.result c.in-Err.fault c.in-Err.is c.in-Err.ensures.no_sink c.open.ensures.opened
