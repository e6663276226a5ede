use Rattle.std.proofs.Common.{◌≡◌, take}
use Rattle.smk_plan_live.proofs.later.paths_again.Given as goal

abbrev pub invariant-loop-path : goal.invariant-loop-path
invariant-loop-path l = l.copy ≡ take l.path-index l.paths
