use Rattle.smk_drive_hub.specs.Keeping.{parts_of}
use Rattle.smk_drive_run.proofs.Choices.{may_by, over_by}
use Rattle.smk_drive_run.proofs.Steps.{held_over}
use Rattle.smk_drive_run.proofs.looping.next.Goals as goal

pub returns-then-not-begins-clause-may : goal.returns-then-not-begins-clause-may
returns-then-not-begins-clause-may c =
    over_by c.args.settings.now (parts_of c.args.hub.now) c.begins.result c.begins.ensures c.if-not-begins.true

pub returns-in-Ok-clause-may : goal.returns-in-Ok-clause-may
returns-in-Ok-clause-may c =
    may_by c.args.settings.now (parts_of c.args.hub.now) c.begins.result c.in-Ok.next c.begins.ensures c.if-not-begins.false c.in-Ok.ensures

pub returns-in-Err-clause-may : goal.returns-in-Err-clause-may
returns-in-Err-clause-may c = held_over (parts_of c.args.hub.now) c.set.ensures
