use Rattle.std.proofs.Common.{inr, arith}
use Rattle.smk_drive_hub.specs.Keeping.{parts_of}
use Rattle.smk_laws_begins.specs.Standing.{taken}
use Rattle.smk_laws_begins.proofs.Nexts.{over_has_none_left}
use Rattle.smk_laws_begins.proofs.Stepping.{for_below}
use Rattle.smk_drive_run.proofs.Counts.{kept_for, kept_free, kept_less, kept_more}
use Rattle.smk_drive_run.proofs.Steps.{held_counts, held_over, held_ready, stays_and_turns, stays_held}
use Rattle.smk_drive_run.proofs.looping.drain_one.Goals as goal

pub wait-requires-clause-somewhere : goal.wait-requires-clause-somewhere
wait-requires-clause-somewhere g c = λ κs within. (held_ready g.W.Files.act (inr c.set.ensures) c.requires.ready).somewhere

pub wait-requires-clause-live : goal.wait-requires-clause-live
wait-requires-clause-live g c = λ κs within. (held_ready g.W.Files.act (inr c.set.ensures) c.requires.ready).live

pub wait-requires-clause-steady : goal.wait-requires-clause-steady
wait-requires-clause-steady g c = λ κs within. (held_ready g.W.Files.act (inr c.set.ensures) c.requires.ready).steady

pub wait-requires-clause-seated : goal.wait-requires-clause-seated
wait-requires-clause-seated g c = λ κs within. (held_ready g.W.Files.act (inr c.set.ensures) c.requires.ready).seated

pub wait-requires-clause-runs : goal.wait-requires-clause-runs
wait-requires-clause-runs g c = λ κs within. kept_free (held_counts (parts_of c.args.hub.now) (inr c.set.ensures)) c.requires.some

pub wait-requires-clause-done : goal.wait-requires-clause-done
wait-requires-clause-done g c = λ κs within.
    for_below 9223372036854775808 c.set.new.self.tally.done (taken c.set.new.self.children.places.items) 18446744073709551615
    (kept_for (held_counts (parts_of c.args.hub.now) (inr c.set.ensures)) c.requires.within).done (omega arith)

pub wait-requires-clause-failed : goal.wait-requires-clause-failed
wait-requires-clause-failed g c = λ κs within.
    for_below 9223372036854775808 c.set.new.self.tally.failed (taken c.set.new.self.children.places.items) 18446744073709551615
    (kept_for (held_counts (parts_of c.args.hub.now) (inr c.set.ensures)) c.requires.within).failed (omega arith)

pub wait-requires-clause-none_left : goal.wait-requires-clause-none_left
wait-requires-clause-none_left g c = λ κs within w is.
    over_has_none_left c.args.ground.flow.now c.args.ground.settings.now (parts_of c.set.new.self) w (held_over (parts_of c.args.hub.now) c.set.ensures)

pub returns-clause-gone : goal.returns-clause-gone
returns-clause-gone g c = stays_and_turns (stays_held (inr c.set.ensures) c.requires.ready.live) c.wait.ensures.turned

pub returns-clause-counts : goal.returns-clause-counts
returns-clause-counts g c = kept_more (held_counts (parts_of c.args.hub.now) (inr c.set.ensures)) c.wait.ensures.turned.counts

pub returns-clause-less : goal.returns-clause-less
returns-clause-less g c = kept_less (held_counts (parts_of c.args.hub.now) (inr c.set.ensures)) c.wait.ensures.less
