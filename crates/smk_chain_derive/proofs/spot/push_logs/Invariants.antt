use Rattle.std.proofs.Common.{◌≡◌, ◌++◌, map, take}
use Rattle.smk_chain_derive.specs.Clashes.{log_of}
use Rattle.smk_chain_derive.proofs.spot.push_logs.Given as goal

abbrev pub invariant-loop-path : goal.invariant-loop-path
invariant-loop-path l = l.found ≡ l.initial.found ++ map log_of (take l.path-index l.logs)
