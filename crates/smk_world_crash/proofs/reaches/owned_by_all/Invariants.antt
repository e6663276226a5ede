use Rattle.std.proofs.Common.{◌≡◌, ◌++◌, length}
use Rattle.smk_world.specs.Calls.{owned_now}
use Rattle.smk_world_crash.proofs.reaches.owned_by_all.Given as goal

abbrev pub invariant-loop-rest : goal.invariant-loop-rest
invariant-loop-rest l = l.places ++ owned_now l.rest ≡ owned_now l.children

abbrev pub decreases-loop-rest : goal.decreases-loop-rest
decreases-loop-rest l = length l.rest
