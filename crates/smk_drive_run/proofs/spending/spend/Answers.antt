use Rattle.smk_drive_run.proofs.Steps.{stays_nowhere, stays_swept}
use Rattle.smk_drive_run.proofs.spending.spend.Goals as goal

pub returns-then-not-limits : goal.returns-then-not-limits
returns-then-not-limits g c = stays_nowhere c.requires.ready.live

pub returns : goal.returns
returns g c = stays_swept c.sweep.ensures.turned c.sweep.ensures.places c.sweep.ensures.tally
