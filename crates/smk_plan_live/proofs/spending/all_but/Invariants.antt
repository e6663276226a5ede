use Rattle.std.proofs.Common.{◌≡◌, map, take}
use Rattle.smk_plan_live.specs.Carried.{sight_but}
use Rattle.smk_plan_live.proofs.spending.all_but.Given as goal

abbrev pub invariant-loop-path : goal.invariant-loop-path
invariant-loop-path l = l.row.items ≡ map (sight_but l.base l.gone) (take l.path-index l.paths)
