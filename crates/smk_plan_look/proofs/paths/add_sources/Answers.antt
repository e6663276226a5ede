use Rattle.smk_plan_look.specs.Gathering.{source_path}
use Rattle.smk_plan_look.proofs.Held.{added_nothing, added_next, added_all}
use Rattle.smk_plan_look.proofs.paths.add_sources.Goals as goal

pub loop-maker-init : goal.loop-maker-init
loop-maker-init c = added_nothing _

pub loop-maker-preserved : goal.loop-maker-preserved
loop-maker-preserved c =
    added_next source_path c.args.makers.now c.loop-maker.maker-index c.maker-item.result c.args.paths.now c.loop-maker.paths _ c.loop-maker-test.true c.maker-item.is c.loop-maker.invariant c.in_ok-add_source.ensures

pub returns : goal.returns
returns c = added_all source_path c.args.makers.now c.loop-maker.maker-index c.args.paths.now c.loop-maker.paths c.loop-maker-test.false c.loop-maker.invariant
