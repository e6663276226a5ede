use Rattle.std.proofs.Common.{◌≡◌, ◌≤◌, [], drop, length}
use Rattle.std.specs.BTreeMap.{get_by_text}
use Rattle.smk_world.specs.Trees.{Path}
use Rattle.smk_plan_live.specs.Sites.{site_outs}
use Rattle.smk_plan_live.proofs.sites.put_outs.Given as goal

abbrev pub decreases-outs : goal.decreases-outs
decreases-outs l = l.place

abbrev pub invariant-outs : goal.invariant-outs
invariant-outs l = (l.place ≤ length l.outs)
    × (((q : Path) → get_by_text l.sites q ≡ site_outs l.job l.place (drop l.place l.outs) (get_by_text l.fn.sites q) q)
    × (get_by_text l.sites [] ≡ get_by_text l.fn.sites []))
