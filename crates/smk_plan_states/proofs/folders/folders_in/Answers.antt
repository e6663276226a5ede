use Rattle.smk_plan_states.proofs.LookUps.{placed_more}
use Rattle.smk_plan_states.proofs.folders.folders_in.Goals as goal

pub loop-place-preserved : goal.loop-place-preserved
loop-place-preserved c =
    placed_more c.loop-place.found c.push_folder.new.found c.args.outs.now c.loop-place.place c.index-outs-place.result c.loop-place-test.true c.index-outs-place.is c.in_ok-push_folder.ensures _ c.loop-place.invariant
