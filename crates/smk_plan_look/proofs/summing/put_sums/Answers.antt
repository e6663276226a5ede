use Rattle.std.specs.BTreeSet.{contains_text}
use Rattle.smk_plan_look.proofs.Placed.{put_more}
use Rattle.smk_plan_look.proofs.summing.put_sums.Goals as goal

pub sights-preserved : goal.sights-preserved
sights-preserved c =
    put_more (contains_text c.args.needed.now) c.sights.found _ c.pop.new.self c.sights.left c.in-Some.sight c.sights.rest.now _ _ c.in-Some.ensures c.in_ok-rest.ensures c.sights.invariant
