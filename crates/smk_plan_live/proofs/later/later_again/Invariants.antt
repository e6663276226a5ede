use Rattle.std.proofs.Common.{◌≡◌, None, drop}
use Rattle.std.specs.BTreeMap.{get_by_text}
use Rattle.smk_world.specs.Trees.{Path, among}
use Rattle.smk_plan_live.specs.Carried.{told_upon}
use Rattle.smk_plan_live.proofs.later.later_again.Given as goal

abbrev pub invariant-loop-path : goal.invariant-loop-path
invariant-loop-path l = (q : Path) → told_upon (among (drop l.path-index l.paths) q) (get_by_text l.later q) (get_by_text l.seen q) ≡ told_upon (among l.paths q) (get_by_text l.later q) None
