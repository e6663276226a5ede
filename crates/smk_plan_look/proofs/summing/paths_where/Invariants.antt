use Rattle.std.proofs.Common.{◌≡◌, ◌++◌, drop}
use Rattle.std.specs.BTreeSet.{contains_text}
use Rattle.smk_plan_look.specs.Putting.{paths_where}
use Rattle.smk_plan_look.proofs.summing.paths_where.Given as goal

abbrev pub invariant-loop-sight : goal.invariant-loop-sight
invariant-loop-sight l = l.paths ++ paths_where (contains_text l.needed) (drop l.sight-index l.sights) ≡ paths_where (contains_text l.needed) l.sights
