use Rattle.smk_drive_first.proofs.Opens.{goes_firm, goes_not}
use Rattle.smk_drive_first.proofs.opening.open_stored.Goals as goal

pub returns-in-Ok-clause-acted : goal.returns-in-Ok-clause-acted
returns-in-Ok-clause-acted g c =
    goes_firm g.W.Files.act c.args.flow.now c.args.settings.now c.args.store.now _ _ _ c.steady.result _ c.open_firm.result c.in-Ok.is c.steady.ensures.acted c.open_firm.ensures.looked
    c.open_firm.ensures.told

pub returns-in-Err-clause-acted : goal.returns-in-Err-clause-acted
returns-in-Err-clause-acted g c =
    goes_not g.W.Files.act c.args.flow.now c.args.settings.now c.args.store.now _ _ c.steady.result c.in-Err.fault c.from.result c.in-Err.is c.from.ensures c.steady.ensures.acted
