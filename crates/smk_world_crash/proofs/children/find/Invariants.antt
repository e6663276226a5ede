use Rattle.std.proofs.Common.{◌≡◌, length}
use Rattle.smk_world.specs.World.{child_numbered}
use Rattle.smk_world_crash.proofs.children.find.Given as goal

abbrev pub invariant-loop-rest : goal.invariant-loop-rest
invariant-loop-rest l = child_numbered l.number l.children ≡ child_numbered l.number l.rest

abbrev pub decreases-loop-rest : goal.decreases-loop-rest
decreases-loop-rest l = length l.rest
