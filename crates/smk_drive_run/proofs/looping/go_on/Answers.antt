use Rattle.std.proofs.Common.{false}
use Rattle.smk_drive_hub.specs.Keeping.{parts_of}
use Rattle.smk_laws_begins.proofs.Going.{goes_further, goes_nowhere}
use Rattle.smk_laws_begins.proofs.Standing.{ready_on}
use Rattle.smk_laws_begins.proofs.Stepping.{within_more}
use Rattle.smk_drive_run.proofs.Counts.{for_all, within_up}
use Rattle.smk_drive_run.proofs.Steps.{goes_and_ends, goes_and_on}
use Rattle.smk_drive_run.proofs.looping.go_on.Goals as goal

pub loop-init : goal.loop-init
loop-init g c = record { gone = goes_nowhere _ _ _ _ _ _ c.requires.ready.live; within = c.requires.within }

pub step-requires-clause-ready : goal.step-requires-clause-ready
step-requires-clause-ready g c = λ κs within. ready_on _ _ _ _ _ _ _ _ _ _ c.requires.ready c.loop.invariant.gone

pub step-requires-clause-within : goal.step-requires-clause-within
step-requires-clause-within g c = λ κs within.
    within_up c.loop.counter 4611686018427387904 (parts_of c.loop.hub) c.loop.auto.counter-end c.loop.invariant.within

pub loop-preserved : goal.loop-preserved
loop-preserved g c =
    record {
      gone = goes_and_on c.loop.invariant.gone c.step.ensures c.in_default.is;
      within =
          within_more c.loop.counter (parts_of c.loop.hub) (parts_of c.step.new.hub) c.loop.invariant.within c.step.ensures.counts
          (c.step.ensures.places c.in_default.is);
    }

pub returns-in-Some-clause-gone : goal.returns-in-Some-clause-gone
returns-in-Some-clause-gone g c = goes_and_ends c.loop.invariant.gone c.step.ensures c.in-Some.is

pub returns-in-Some-clause-through : goal.returns-in-Some-clause-through
returns-in-Some-clause-through g c = c.step.ensures.through c.in-Some.waited c.in-Some.is

pub drain-requires-clause-ready : goal.drain-requires-clause-ready
drain-requires-clause-ready g c = λ κs within. ready_on _ _ _ _ _ _ _ _ _ _ c.requires.ready c.loop.invariant.gone

pub drain-requires-clause-within : goal.drain-requires-clause-within
drain-requires-clause-within g c = λ κs within.
    for_all (parts_of c.loop.hub) (within_up c.loop.counter 4611686018427387904 (parts_of c.loop.hub) c.loop.auto.counter-end c.loop.invariant.within)

pub returns-clause-gone : goal.returns-clause-gone
returns-clause-gone g c = goes_further _ _ _ _ _ _ false _ _ _ _ _ _ _ c.loop.invariant.gone c.drain.ensures.gone
