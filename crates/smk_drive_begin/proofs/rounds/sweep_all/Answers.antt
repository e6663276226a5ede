use Rattle.std.proofs.Common.{List, subst, sym}
use Rattle.smk_world.specs.Trees.{Path}
use Rattle.smk_drive_hub.specs.Keeping.{parts_of}
use Rattle.smk_drive_begin.specs.declared.rounds.Round.TheVariants.{Broken, Done, Halted, Removed}
use Rattle.smk_drive_begin.specs.Rounds.{HasSwept}
use Rattle.smk_drive_begin.proofs.Answering.{round_more, still_somewhere}
use Rattle.smk_drive_begin.proofs.Joining.{swept_nothing}
use Rattle.smk_drive_begin.proofs.rounds.sweep_all.Goals as goal

pub loop-init : goal.loop-init
loop-init g c =
    let h = parts_of c.args.hub.now in
    let d = g.W.Files.device c.args.work.now in
    subst (λ (ps : List Path). HasSwept g.W.Files.act c.args.flow.now c.args.settings.now h h ps Removed d d) (sym c.requires.none)
    (swept_nothing g.W.Files.act c.args.flow.now c.args.settings.now h d c.requires.live)

pub sweep_one-requires-clause-somewhere : goal.sweep_one-requires-clause-somewhere
sweep_one-requires-clause-somewhere g c =
    still_somewhere g.W.Files.act c.args.flow.now c.args.settings.now (parts_of c.args.hub.now) (parts_of c.loop.hub) c.loop.removed
    (g.W.Files.device c.args.work.now) (g.W.Files.device c.loop.work) c.loop.invariant c.requires.unhalted c.requires.somewhere

pub returns-in-Done : goal.returns-in-Done
returns-in-Done g c =
    round_more g.W.Files.act c.args.flow.now c.args.settings.now (parts_of c.args.hub.now) (parts_of c.loop.hub) (parts_of c.sweep_one.new.hub) c.loop.removed
    c.sweep_one.new.removed Done _ _ _ c.loop.invariant c.in-Done.ensures

pub returns-in-Halted : goal.returns-in-Halted
returns-in-Halted g c =
    round_more g.W.Files.act c.args.flow.now c.args.settings.now (parts_of c.args.hub.now) (parts_of c.loop.hub) (parts_of c.sweep_one.new.hub) c.loop.removed
    c.sweep_one.new.removed (Halted c.in-Halted.fault) _ _ _ c.loop.invariant c.in-Halted.ensures

pub returns-in-Broken : goal.returns-in-Broken
returns-in-Broken g c =
    round_more g.W.Files.act c.args.flow.now c.args.settings.now (parts_of c.args.hub.now) (parts_of c.loop.hub) (parts_of c.sweep_one.new.hub) c.loop.removed
    c.sweep_one.new.removed Broken _ _ _ c.loop.invariant c.in-Broken.ensures

pub loop-preserved : goal.loop-preserved
loop-preserved g c =
    round_more g.W.Files.act c.args.flow.now c.args.settings.now (parts_of c.args.hub.now) (parts_of c.loop.hub) (parts_of c.sweep_one.new.hub) c.loop.removed
    c.sweep_one.new.removed Removed _ _ _ c.loop.invariant c.in-Removed.ensures
