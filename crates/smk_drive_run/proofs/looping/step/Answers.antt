use Rattle.smk_drive_hub.specs.Keeping.{parts_of}
use Rattle.smk_drive_run.proofs.Counts.{kept_within}
use Rattle.smk_drive_run.proofs.Steps.{held_counts, held_ready, stays_and_steps, stays_held}
use Rattle.smk_drive_run.proofs.looping.step.Goals as goal

pub next-requires : goal.next-requires
next-requires g c = c.requires.ready.live

pub begin-requires-clause-ready : goal.begin-requires-clause-ready
begin-requires-clause-ready g c = λ κs within. held_ready g.W.Files.act c.next.ensures.held c.requires.ready

pub begin-requires-clause-may : goal.begin-requires-clause-may
begin-requires-clause-may g c = λ κs within. c.in-Some.ensures.may

pub begin-requires-clause-within : goal.begin-requires-clause-within
begin-requires-clause-within g c = λ κs within. kept_within (held_counts (parts_of c.args.hub.now) c.next.ensures.held) c.requires.within

pub rest-requires-clause-ready : goal.rest-requires-clause-ready
rest-requires-clause-ready g c = λ κs within. held_ready g.W.Files.act c.next.ensures.held c.requires.ready

pub rest-requires-clause-over : goal.rest-requires-clause-over
rest-requires-clause-over g c = λ κs within. c.in-None.ensures.may

pub rest-requires-clause-within : goal.rest-requires-clause-within
rest-requires-clause-within g c = λ κs within. kept_within (held_counts (parts_of c.args.hub.now) c.next.ensures.held) c.requires.within

pub returns-in-Some : goal.returns-in-Some
returns-in-Some g c = stays_and_steps (stays_held c.next.ensures.held c.requires.ready.live) c.begin.ensures

pub returns-in-None : goal.returns-in-None
returns-in-None g c = stays_and_steps (stays_held c.next.ensures.held c.requires.ready.live) c.rest.ensures
