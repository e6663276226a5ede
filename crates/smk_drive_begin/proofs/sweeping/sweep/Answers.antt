use Rattle.std.proofs.Common.{◌≡◌, false, subst, sym, None}
use Rattle.smk_laws_turns.specs.Hubs.{Parts}
use Rattle.smk_drive_hub.specs.Keeping.{parts_of}
use Rattle.smk_drive_hub.specs.Turned.{HasTurned}
use Rattle.smk_drive_begin.proofs.Answering.{none_of, turns_nothing}
use Rattle.smk_drive_begin.proofs.Turning.{sweep_turns}
use Rattle.smk_drive_begin.proofs.sweeping.sweep.Goals as goal

pub returns-then-not-is_none-clause-turned : goal.returns-then-not-is_none-clause-turned
returns-then-not-is_none-clause-turned g c = λ sunk.
    turns_nothing g.W.Files.act c.args.ground.flow.now c.args.ground.settings.now (parts_of c.args.hub.now) (g.W.Files.device c.args.work.now) sunk c.requires.live

pub returns-clause-turned : goal.returns-clause-turned
returns-clause-turned g c = λ sunk.
    let old = g.W.Files.device c.args.work.now in
    let new = g.W.Files.device c.conclude-answer.new.work in
    let unhalted : c.args.hub.now.halt.fault ≡ None = none_of c.args.hub.now.halt.fault c.is_none.result c.is_none.ensures c.if-not-is_none.false in
    subst (λ (k : Parts). HasTurned g.W.Files.act c.args.ground.flow.now c.args.ground.settings.now (parts_of c.args.hub.now) k false old new sunk sunk) (sym c.heed.ensures)
    (sweep_turns g.W.Files.act c.args.ground.flow.now c.args.ground.settings.now (parts_of c.args.hub.now) unhalted old _ sunk _ _ (parts_of c.sweep_all-round.new.hub) new
    c.conclude-answer.result c.sweep_all-round.ensures c.requires.late c.conclude-answer.ensures)
