use Rattle.smk_drive_hub.specs.Keeping.{parts_of}
use Rattle.smk_drive_close.proofs.Faults.{quiet_other}
use Rattle.smk_drive_close.proofs.Onward.{checked_round, ended_round}
use Rattle.smk_drive_close.proofs.rounds.round_on.Goals as goal

pub returns-in-Ok-clause-acted : goal.returns-in-Ok-clause-acted
returns-in-Ok-clause-acted g c =
    checked_round g.W.Files.act c.args.ground.flow.now c.args.ground.settings.now (parts_of c.args.hub.now) (parts_of c.round.new.hub) c.requires.commands c.requires.known c.round.result
    c.check_texts.result _ _ _ c.in-Ok.is c.round.ensures.acted c.check_texts.ensures.err c.check_texts.ensures.quiet

pub returns-in-Ok-clause-other : goal.returns-in-Ok-clause-other
returns-in-Ok-clause-other g c = quiet_other c.check_texts.result c.check_texts.ensures.quiet

pub returns-in-Err-clause-acted : goal.returns-in-Err-clause-acted
returns-in-Err-clause-acted g c =
    ended_round g.W.Files.act c.args.ground.flow.now c.args.ground.settings.now (parts_of c.args.hub.now) (parts_of c.round.new.hub) c.requires.commands c.requires.known c.round.result
    c.in-Err.fault _ _ c.in-Err.is c.round.ensures.acted
