use Rattle.std.proofs.Common.{ap, refl}
use Rattle.smk_world.proofs.Devices.{looked_as}
use Rattle.smk_plan_preview.specs.Faults.{device_failed}
use Rattle.smk_drive_hub.specs.Keeping.{parts_of}
use Rattle.smk_drive_close.proofs.Faults.{no_output, quiet_other}
use Rattle.smk_drive_close.proofs.Onward.{found_round, unfound_round}
use Rattle.smk_drive_close.proofs.Taken.{moved_not, taken_or_not}
use Rattle.smk_drive_close.proofs.rounds.round.Goals as goal

pub returns-in-Ok-clause-acted : goal.returns-in-Ok-clause-acted
returns-in-Ok-clause-acted g c =
    let e = c.take_in.ensures in
    found_round g.W.Files.act c.args.ground.flow.now c.args.ground.settings.now (parts_of c.args.hub.now) (parts_of c.take_in.new.hub) c.in-Ok.found.jobs c.in-Ok.found.store
    c.in-Ok.found.seen c.take_in.result _ _ c.in-Ok.ensures.looked c.in-Ok.ensures.told e.live e.ok e.err e.refused e.quiet

pub returns-in-Ok-clause-moved : goal.returns-in-Ok-clause-moved
returns-in-Ok-clause-moved g c =
    let e = c.take_in.ensures in
    taken_or_not c.args.ground.flow.now c.in-Ok.found.jobs c.in-Ok.found.store c.in-Ok.found.seen (parts_of c.args.hub.now) (parts_of c.take_in.new.hub) c.take_in.result e.ok e.err

pub returns-in-Ok-clause-other : goal.returns-in-Ok-clause-other
returns-in-Ok-clause-other g c = quiet_other c.take_in.result c.take_in.ensures.quiet

pub returns-in-Err-clause-acted : goal.returns-in-Err-clause-acted
returns-in-Err-clause-acted g c =
    unfound_round g.W.Files.act c.args.ground.flow.now c.args.ground.settings.now (parts_of c.args.hub.now) c.in-Err.fault _ _ c.in-Err.ensures.no_sink
    (looked_as (ap device_failed c.in-Err.is) c.find_more.ensures.looked) c.in-Err.ensures.told

pub returns-in-Err-clause-moved : goal.returns-in-Err-clause-moved
returns-in-Err-clause-moved g c = moved_not c.args.ground.flow.now (parts_of c.args.hub.now) (parts_of c.args.hub.now) refl

pub returns-in-Err-clause-other : goal.returns-in-Err-clause-other
returns-in-Err-clause-other g c = no_output c.in-Err.fault c.in-Err.ensures.no_sink
