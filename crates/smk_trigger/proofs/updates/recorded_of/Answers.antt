use Rattle.std.specs.BTreeMap.{get_by_text}
use Rattle.std.specs.List.{zip}
use Rattle.smk_trigger.proofs.Differing.{one_recorded}
use Rattle.smk_trigger.proofs.updates.recorded_of.Goals as goal

pub loop-i-preserved : goal.loop-i-preserved
loop-i-preserved c =
    one_recorded (get_by_text c.loop-i.recorded) (get_by_text c.add.new.recorded) c.args.paths.now c.args.stamps.now c.loop-i.i c.index-paths-i.result c.in-Some.stamp.now
    c.loop-i-test.true c.index-paths-i.is c.in-Some.ensures.lookup.3.0 c.in-Some.ensures.lookup.1 c.in_ok-add.ensures (zip c.args.paths.now c.args.stamps.now) c.loop-i.invariant
