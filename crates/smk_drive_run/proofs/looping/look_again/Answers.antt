use Rattle.smk_drive_hub.specs.Keeping.{parts_of}
use Rattle.smk_drive_run.proofs.Counts.{counts_then, kept_within}
use Rattle.smk_drive_run.proofs.Steps.{held_counts, stays_and_ends, stays_and_steps, stays_looked, stays_ready}
use Rattle.smk_drive_run.proofs.looping.look_again.Goals as goal

pub next-requires : goal.next-requires
next-requires g c = (stays_ready c.spend_at_rest.ensures c.requires.ready).live

pub begin-requires-clause-ready : goal.begin-requires-clause-ready
begin-requires-clause-ready g c = λ κs within. stays_ready (stays_looked c.spend_at_rest.ensures c.next.ensures.held) c.requires.ready

pub begin-requires-clause-may : goal.begin-requires-clause-may
begin-requires-clause-may g c = λ κs within. c.in-Some.ensures.may

pub begin-requires-clause-within : goal.begin-requires-clause-within
begin-requires-clause-within g c = λ κs within.
    kept_within (counts_then c.spend_at_rest.ensures.counts (held_counts (parts_of c.spend_at_rest.new.hub) c.next.ensures.held)) c.requires.within

pub returns-in-Some : goal.returns-in-Some
returns-in-Some g c = stays_and_steps (stays_looked c.spend_at_rest.ensures c.next.ensures.held) c.begin.ensures

pub returns-in-None : goal.returns-in-None
returns-in-None g c = stays_and_ends (stays_looked c.spend_at_rest.ensures c.next.ensures.held) c.requires.free c.in-None.ensures.may
