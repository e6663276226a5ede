use Rattle.std.proofs.Common.{◌≡◌, length}
use Rattle.smk_world.specs.World.{is_named}
use Rattle.smk_world_crash.proofs.crash.is_place.Given as goal

abbrev pub invariant-loop-rest : goal.invariant-loop-rest
invariant-loop-rest l = is_named l.text l.places ≡ is_named l.text l.rest

abbrev pub decreases-loop-rest : goal.decreases-loop-rest
decreases-loop-rest l = length l.rest
