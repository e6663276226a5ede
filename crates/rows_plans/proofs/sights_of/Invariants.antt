use Rattle.std.proofs.Common.{◌≡◌, map, take}
use Rattle.smk_plan.specs.declared.seen.Sight.{Sight}
use Rattle.rows_plans.proofs.sights_of.Given as goal

abbrev pub invariant-loop-path : goal.invariant-loop-path
invariant-loop-path l = map (λ (s : Sight). s.path) l.sights ≡ take l.path-index l.paths
