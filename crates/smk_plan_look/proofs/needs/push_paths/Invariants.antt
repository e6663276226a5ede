use Rattle.std.proofs.Common.{◌≡◌, ◌++◌, take, map}
use Rattle.smk_plan_look.proofs.needs.push_paths.Given as goal

abbrev pub invariant-loop-path : goal.invariant-loop-path
invariant-loop-path l = map (λ p. p.now) l.found ≡ map (λ p. p.now) l.initial.found ++ take l.path-index l.paths
