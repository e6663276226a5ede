use Rattle.std.specs.BTreeMap.{get_by_text}
use Rattle.smk_trigger.proofs.Differing.{one_update}
use Rattle.smk_trigger.proofs.updates.push_all.Goals as goal

pub loop-i-preserved : goal.loop-i-preserved
loop-i-preserved c =
    one_update (get_by_text c.loop-i.recorded) (get_by_text c.take-earlier.new.recorded) c.loop-i.found c.push_update.new.found c.args.paths.now c.args.stamps.now c.loop-i.i c.index-paths-i.result
    c.in-Some.now.now c.take-earlier.result c.loop-i-test.true c.index-paths-i.is c.in-Some.ensures.lookup.3.0 c.in-Some.ensures.lookup.1 c.take-earlier.ensures.taken c.take-earlier.ensures.left c.in_ok-push_update.ensures _ c.loop-i.invariant
