use Rattle.std.proofs.Common.{◌≡◌, length}
use Rattle.smk_world_crash.specs.Crash.{first_node}
use Rattle.smk_world_crash.proofs.crash.first_node.Given as goal

abbrev pub invariant-loop-rest : goal.invariant-loop-rest
invariant-loop-rest l = first_node l.nodes ≡ first_node l.rest

abbrev pub decreases-loop-rest : goal.decreases-loop-rest
decreases-loop-rest l = length l.rest
