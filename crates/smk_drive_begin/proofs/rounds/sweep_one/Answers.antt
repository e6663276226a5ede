use Rattle.smk_drive_hub.specs.Keeping.{parts_of}
use Rattle.smk_drive_begin.proofs.Calls.{round_done, round_lacks}
use Rattle.smk_drive_begin.proofs.rounds.sweep_one.Goals as goal

pub returns-in-Ok-None : goal.returns-in-Ok-None
returns-in-Ok-None g c =
    round_done g.W.Files.act c.args.flow.now c.args.settings.now (parts_of c.args.hub.now) (g.W.Files.device c.args.work.now) c.args.removed.now c.requires.live

pub returns-in-Err : goal.returns-in-Err
returns-in-Err g c =
    round_lacks g.W.Files.act c.args.flow.now c.args.settings.now (parts_of c.args.hub.now) (g.W.Files.device c.args.work.now) c.args.removed.now c.requires.live
