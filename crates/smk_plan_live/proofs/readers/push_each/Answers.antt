use Rattle.std.specs.BTreeMap.{get_by_text}
use Rattle.std.specs.List.{slice_get}
use Rattle.smk_plan_live.specs.Readers.{stands_at}
use Rattle.smk_plan_live.proofs.Users.{reading_step}
use Rattle.smk_plan_live.proofs.readers.push_each.Goals as goal

pub loop-path-preserved : goal.loop-path-preserved
loop-path-preserved c = λ m.
    reading_step (stands_at (get_by_text c.args.base.now.sites) m) c.args.paths.now c.loop-path.path-index c.path-item.result c.args.reader
    (slice_get c.loop-path.readers.items m) (slice_get c.push_at.new.readers.items m) _ c.loop-path-test.true c.path-item.is (c.in_ok-push_at.ensures m)
    (c.loop-path.invariant m)
