use Rattle.std.proofs.Common.{◌≡◌, map, take}
use Rattle.smk_plan_live.specs.Carried.{gone_sight}
use Rattle.smk_plan_live.proofs.beginning.gone_sights.Given as goal

abbrev pub invariant-loop-path : goal.invariant-loop-path
invariant-loop-path l = l.row.items ≡ map gone_sight (take l.path-index l.paths)
