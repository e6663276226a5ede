use Rattle.std.proofs.Common.{◌≡◌, length}
use Rattle.smk_world.specs.World.{is_within}
use Rattle.smk_world_crash.proofs.moves.is_within_any.Given as goal

abbrev pub invariant-loop-rest : goal.invariant-loop-rest
invariant-loop-rest l = is_within l.text l.places ≡ is_within l.text l.rest

abbrev pub decreases-loop-rest : goal.decreases-loop-rest
decreases-loop-rest l = length l.rest
