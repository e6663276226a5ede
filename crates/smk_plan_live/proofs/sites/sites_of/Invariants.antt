use Rattle.std.proofs.Common.{◌≡◌, ◌≤◌, [], None, drop, length}
use Rattle.std.specs.BTreeMap.{get_by_text}
use Rattle.smk_world.specs.Trees.{Path}
use Rattle.smk_plan_live.specs.Sites.{site_in}
use Rattle.smk_plan_live.proofs.sites.sites_of.Given as goal

abbrev pub decreases-jobs : goal.decreases-jobs
decreases-jobs l = l.number

abbrev pub invariant-jobs : goal.invariant-jobs
invariant-jobs l = (l.number ≤ length l.jobs)
    × (((q : Path) → get_by_text l.sites q ≡ site_in l.number (drop l.number l.jobs) q)
    × (get_by_text l.sites [] ≡ None))
