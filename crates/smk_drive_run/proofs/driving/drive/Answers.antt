use Rattle.smk_drive_hub.specs.Keeping.{parts_of}
use Rattle.smk_laws_begins.proofs.Begun.{opened_is_at}
use Rattle.smk_laws_begins.proofs.Ended.{ends_well}
use Rattle.smk_laws_begins.proofs.Entering.{start_is_within}
use Rattle.smk_laws_begins.proofs.Standing.{ready_at_start}
use Rattle.smk_laws_begins.proofs.Unopened.{unopened_run}
use Rattle.smk_laws_begins.proofs.Whole.{whole_run}
use Rattle.smk_drive_run.proofs.driving.drive.Goals as goal

pub run-requires-clause-ready : goal.run-requires-clause-ready
run-requires-clause-ready g c = λ κs within.
    ready_at_start g.W.Files.act c.args.flow.now c.args.settings.now (parts_of c.in-Ok.hub) (g.W.Files.device c.args.work.now)
    (g.W.Files.device c.enter.new.work) opened_is_at (g.met.W.Files.sound c.args.work.now) c.requires.idle c.in-Ok.ensures

pub run-requires-clause-within : goal.run-requires-clause-within
run-requires-clause-within g c = λ κs within. start_is_within c.args.settings.now (parts_of c.in-Ok.hub) c.in-Ok.ensures.is_new

pub returns-in-Ok : goal.returns-in-Ok
returns-in-Ok g c = λ rules by.
    let r = c.run.ensures in
    whole_run g.W.Files.act c.args.flow.now c.args.settings.now (parts_of c.in-Ok.hub) r.last r.unwaited c.run.result _ _ _ _ r.middle _
    opened_is_at ends_well (g.met.W.Files.sound c.args.work.now) c.requires.idle c.in-Ok.ensures r.gone r.through r.concluded rules by

pub returns-in-Err : goal.returns-in-Err
returns-in-Err g c = λ rules by.
    unopened_run g.W.Files.act c.args.flow.now c.args.settings.now c.in-Err.fault _ _ _ (g.met.W.Files.sound c.args.work.now)
    c.requires.idle c.in-Err.ensures rules by
