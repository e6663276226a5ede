use Rattle.std.proofs.Common.{◌≡◌, ◌++◌, take}
use Rattle.smk_flow_jobs.proofs.targeting.add_paths.Given as goal

abbrev pub invariant-loop-path : goal.invariant-loop-path
invariant-loop-path l = l.made ≡ l.initial.made ++ take l.path-index l.paths
