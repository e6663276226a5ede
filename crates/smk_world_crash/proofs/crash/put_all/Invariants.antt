use Rattle.std.proofs.Common.{◌≡◌, ◌++◌, length}
use Rattle.smk_world_crash.specs.Crash.{puts}
use Rattle.smk_world_crash.proofs.crash.put_all.Given as goal

abbrev pub invariant-loop-rest : goal.invariant-loop-rest
invariant-loop-rest l = l.steps ++ puts l.own l.nodes l.rest ≡ l.fn.steps ++ puts l.own l.nodes l.names

abbrev pub decreases-loop-rest : goal.decreases-loop-rest
decreases-loop-rest l = length l.rest
