use Rattle.std.proofs.Common.{◌≡◌, drop, is_some}
use Rattle.std.specs.List.{list_any}
use Rattle.smk_plan_live.specs.Now.{settled_now}
use Rattle.smk_plan_live.proofs.now.any_known.Given as goal

abbrev pub invariant-loop-path : goal.invariant-loop-path
invariant-loop-path l = list_any (λ q. is_some (settled_now l.base q)) l.paths ≡ list_any (λ q. is_some (settled_now l.base q)) (drop l.path-index l.paths)
