use Rattle.smk_drive_hub.specs.Keeping.{parts_of}
use Rattle.smk_laws_begins.proofs.Nexts.{started_may_spend}
use Rattle.smk_drive_run.proofs.Counts.{some_started}
use Rattle.smk_drive_run.proofs.Steps.{stays_nowhere}
use Rattle.smk_drive_run.proofs.spending.spend_once_started.Goals as goal

pub spend-requires-clause-late : goal.spend-requires-clause-late
spend-requires-clause-late g c = λ w is.
    started_may_spend c.args.ground.flow.now c.args.ground.settings.now (parts_of c.args.hub.now) w
    (some_started c.args.hub.now.tally.started c.if-hub-eq0.false)

pub returns-then-hub-eq0 : goal.returns-then-hub-eq0
returns-then-hub-eq0 g c = stays_nowhere c.requires.ready.live
