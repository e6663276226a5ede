use Rattle.smk_laws_begins.proofs.Spaced.{room_left}
use Rattle.smk_drive_hub.specs.Keeping.{parts_of}
use Rattle.smk_drive_begin.proofs.Notes.{begun_with, unbegun_with}
use Rattle.smk_drive_begin.proofs.taking.take_up.Goals as goal

pub begin_job-requires-clause-room : goal.begin_job-requires-clause-room
begin_job-requires-clause-room g c = λ lives bounds w told.
    room_left c.args.ground.flow.now c.args.ground.settings.now (parts_of c.args.hub.now) c.args.number c.args.job.now w c.requires.may c.requires.job
    (c.requires.somewhere w told)

pub returns-in-Ok-clause-ok : goal.returns-in-Ok-clause-ok
returns-in-Ok-clause-ok g c =
    begun_with g.W.Files.act c.args.ground.settings.now (parts_of c.args.hub.now) c.args.number c.args.job.now c.args.kit.now c.in-Ok.going _ _
    c.as_slice.result.now c.as_str.result.now c.as_slice.ensures c.as_str.ensures c.requires.may c.requires.live c.requires.kit.fit c.in-Ok.ensures.logged
    c.in-Ok.ensures.taken (g.met.W.Files.sound c.args.work.now) c.in-Ok.ensures.fresh

pub returns-in-Err-clause-err : goal.returns-in-Err-clause-err
returns-in-Err-clause-err g c = λ o.
    unbegun_with g.W.Files.act c.args.ground.flow.now c.args.ground.settings.now (parts_of c.args.hub.now) c.args.number c.args.job.now c.args.kit.now c.in-Err.why _ _
    c.as_slice.result.now c.as_str.result.now c.rule_name.result.now c.fault_of.result o c.as_slice.ensures c.as_str.ensures c.rule_name.ensures c.requires.may
    c.requires.live c.requires.kit.fit c.in-Err.ensures.logged c.in-Err.ensures.taken c.fault_of.ensures
