use Rattle.std.proofs.Common.{◌≡◌, length, None}
use Rattle.smk_world.specs.World.{firmly}
use Rattle.smk_world_crash.specs.Crash.{state_by}
use Rattle.smk_world_crash.proofs.moves.state_of.Given as goal

abbrev pub invariant-loop-rest : goal.invariant-loop-rest
invariant-loop-rest l = state_by l.text (firmly None) l.steps l.reached ≡ state_by l.text l.state l.rest l.reaches

abbrev pub decreases-loop-rest : goal.decreases-loop-rest
decreases-loop-rest l = length l.rest
