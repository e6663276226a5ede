use Rattle.std.proofs.Common.{inr, false, sym, subst, ◌∙◌}
use Rattle.smk_drive_hub.specs.Keeping.{parts_of}
use Rattle.smk_laws_begins.specs.Standing.{taken}
use Rattle.smk_laws_begins.specs.Whole.{IsThrough}
use Rattle.smk_laws_begins.proofs.Going.{goes_further, goes_nowhere}
use Rattle.smk_laws_begins.proofs.Standing.{ready_on}
use Rattle.smk_laws_begins.proofs.Stepping.{for_less, held_is_through, unwaited_is_through}
use Rattle.smk_drive_run.proofs.Counts.{less_taken, one_less}
use Rattle.smk_drive_run.proofs.Steps.{goes_and_waits, stays_held}
use Rattle.smk_drive_run.proofs.looping.drain.Goals as goal

pub children-init : goal.children-init
children-init g c = record { gone = goes_nowhere _ _ _ _ _ _ c.requires.ready.live; within = c.requires.within }

pub drain_one-requires-clause-ready : goal.drain_one-requires-clause-ready
drain_one-requires-clause-ready g c = λ κs within. ready_on _ _ _ _ _ _ _ _ _ _ c.requires.ready c.children.invariant.gone

pub drain_one-requires-clause-some : goal.drain_one-requires-clause-some
drain_one-requires-clause-some g c = λ κs within. sym c.is_idle.ensures ∙ c.children-test.true

pub children-preserved : goal.children-preserved
children-preserved g c =
    record {
      gone = goes_and_waits c.children.invariant.gone c.drain_one.ensures.gone c.if-not-drain_one.false;
      within =
          for_less 9223372036854775808 (parts_of c.children.hub) (parts_of c.drain_one.new.hub) c.children.invariant.within c.drain_one.ensures.counts
          (less_taken c.children.hub.children.places.items c.drain_one.new.hub.children.places.items c.drain_one.result c.if-not-drain_one.false
          c.drain_one.ensures.less);
    }

pub children-smaller : goal.children-smaller
children-smaller g c =
    one_less (taken c.children.hub.children.places.items) (taken c.drain_one.new.hub.children.places.items)
    (less_taken c.children.hub.children.places.items c.drain_one.new.hub.children.places.items c.drain_one.result c.if-not-drain_one.false
    c.drain_one.ensures.less)

pub returns-then-not-drain_one-clause-gone : goal.returns-then-not-drain_one-clause-gone
returns-then-not-drain_one-clause-gone g c = goes_and_waits c.children.invariant.gone c.drain_one.ensures.gone c.if-not-drain_one.true

pub returns-then-not-drain_one-clause-through : goal.returns-then-not-drain_one-clause-through
returns-then-not-drain_one-clause-through g c =
    unwaited_is_through _ _ _ _ _ _ _ _ _ c.requires.ready
    (goes_and_waits c.children.invariant.gone c.drain_one.ensures.gone c.if-not-drain_one.true)

pub returns-clause-gone : goal.returns-clause-gone
returns-clause-gone g c =
    goes_further _ _ _ _ _ _ false false _ _ _ _ _ _ c.children.invariant.gone
    ((stays_held (inr c.set.ensures) c.children.invariant.gone.alive).gone (g.O.Sink.sunk c.children.out))

pub returns-clause-through : goal.returns-clause-through
returns-clause-through g c =
    subst (λ x. IsThrough c.args.ground.flow.now c.args.ground.settings.now x false (g.W.Files.device c.children.work)) (sym c.set.ensures)
    (held_is_through c.args.ground.flow.now c.args.ground.settings.now (parts_of c.children.hub) (g.W.Files.device c.children.work)
    (sym c.is_idle.ensures ∙ c.children-test.false))
