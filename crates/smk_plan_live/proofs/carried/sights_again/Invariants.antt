use Rattle.std.proofs.Common.{◌≡◌, map, take}
use Rattle.smk_plan_live.specs.Now.{sight_now}
use Rattle.smk_plan_live.proofs.carried.sights_again.Given as goal

abbrev pub invariant-loop-path : goal.invariant-loop-path
invariant-loop-path l = l.row.items ≡ map (sight_now l.base) (take l.path-index l.paths)
