use Rattle.std.proofs.Common.{arith}
use Rattle.smk_laws_begins.proofs.Stepping.{below_limit, started_step}
use Rattle.smk_drive_run.proofs.looping.begin.Goals as goal

pub start-requires-clause-somewhere : goal.start-requires-clause-somewhere
start-requires-clause-somewhere g c = λ κs within. c.requires.ready.somewhere

pub start-requires-clause-live : goal.start-requires-clause-live
start-requires-clause-live g c = λ κs within. c.requires.ready.live

pub start-requires-clause-may : goal.start-requires-clause-may
start-requires-clause-may g c = λ κs within. c.requires.may

pub start-requires-clause-counts : goal.start-requires-clause-counts
start-requires-clause-counts g c = λ κs within.
    below_limit c.args.hub.now.tally.started 4611686018427387904 18446744073709551615 c.requires.within.started (omega arith)

pub returns : goal.returns
returns g c = started_step _ _ _ _ _ _ _ _ _ c.start.ensures.turned c.start.ensures.places
