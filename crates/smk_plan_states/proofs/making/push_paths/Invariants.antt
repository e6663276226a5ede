use Rattle.std.proofs.Common.{◌≡◌, ◌++◌, take}
use Rattle.smk_plan_states.specs.Rows.{lent}
use Rattle.smk_plan_states.proofs.making.push_paths.Given as goal

abbrev pub invariant-loop-path : goal.invariant-loop-path
invariant-loop-path l = lent l.found ≡ lent l.initial.found ++ take l.path-index l.paths
