use Rattle.std.proofs.Common.{◌≡◌, length}
use Rattle.smk_world.specs.World.{standing}
use Rattle.smk_world_crash.proofs.moves.node_left.Given as goal

abbrev pub invariant-loop-rest : goal.invariant-loop-rest
invariant-loop-rest l = standing l.left l.text ≡ standing l.rest l.text

abbrev pub decreases-loop-rest : goal.decreases-loop-rest
decreases-loop-rest l = length l.rest
