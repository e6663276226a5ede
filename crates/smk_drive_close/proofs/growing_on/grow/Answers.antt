use Rattle.std.proofs.Common.{sym, subst}
use Rattle.smk_laws_turns.specs.GrownIn.{HasGrownIn}
use Rattle.smk_laws_turns.specs.Hubs.{Parts}
use Rattle.smk_drive_hub.specs.Keeping.{parts_of}
use Rattle.smk_drive_close.proofs.Grown.{come_further, come_nowhere, ends_faulted, ends_short, ends_whole}
use Rattle.smk_drive_close.proofs.growing_on.grow.Goals as goal

pub loop-init : goal.loop-init
loop-init g c = come_nowhere g.W.Files.act c.args.ground.flow.now c.args.ground.settings.now (parts_of c.args.hub.now) (g.W.Files.device c.args.work.now) c.requires.live c.requires.commands

pub returns-then-is_whole : goal.returns-then-is_whole
returns-then-is_whole g c =
    ends_whole g.W.Files.act c.args.ground.flow.now c.args.ground.settings.now (parts_of c.args.hub.now) (parts_of c.loop.hub) _ _ c.loop.invariant
    (c.is_whole.ensures.whole c.if-is_whole.true)

pub round_on-requires-clause-live : goal.round_on-requires-clause-live
round_on-requires-clause-live g c = λ κs within. c.loop.invariant.alive

pub round_on-requires-clause-commands : goal.round_on-requires-clause-commands
round_on-requires-clause-commands g c = λ κs within. c.loop.invariant.commands

pub round_on-requires-clause-known : goal.round_on-requires-clause-known
round_on-requires-clause-known g c = λ κs within. c.is_whole.ensures.more c.if-is_whole.false

pub returns-in-Err : goal.returns-in-Err
returns-in-Err g c =
    subst
    (λ (k : Parts).
    HasGrownIn g.W.Files.act c.args.ground.flow.now c.args.ground.settings.now (parts_of c.args.hub.now) k (g.W.Files.device c.args.work.now) (g.W.Files.device c.round_on.new.work))
    (sym c.set.ensures)
    (ends_faulted g.W.Files.act c.args.ground.flow.now c.args.ground.settings.now (parts_of c.args.hub.now) (parts_of c.loop.hub) _ _ c.loop.invariant (parts_of c.round_on.new.hub)
    c.round_on.result c.in-Err.fault _ c.in-Err.is c.in-Err.ensures.other c.round_on.ensures.acted c.round_on.ensures.live c.round_on.ensures.moved)

pub loop-preserved : goal.loop-preserved
loop-preserved g c =
    come_further g.W.Files.act c.args.ground.flow.now c.args.ground.settings.now (parts_of c.args.hub.now) (parts_of c.loop.hub) _ _ c.loop.invariant
    (parts_of c.round_on.new.hub) c.round_on.result c.in_default.field-0 _ c.in_default.is (c.is_whole.ensures.more c.if-is_whole.false) c.round_on.ensures.acted c.round_on.ensures.live c.in_default.ensures.commands
    c.round_on.ensures.moved

pub returns : goal.returns
returns g c =
    subst
    (λ (k : Parts).
    HasGrownIn g.W.Files.act c.args.ground.flow.now c.args.ground.settings.now (parts_of c.args.hub.now) k (g.W.Files.device c.args.work.now) (g.W.Files.device c.loop.work))
    (sym c.set-2.ensures)
    (ends_short g.W.Files.act c.args.ground.flow.now c.args.ground.settings.now (parts_of c.args.hub.now) (parts_of c.loop.hub) _ _ c.loop.invariant)
