use Rattle.std.proofs.Common.{◌≡◌, ◌++◌, [], length}
use Rattle.smk_world_crash.specs.Crash.{all_reached}
use Rattle.smk_world_crash.proofs.reaches.all_reached.Given as goal

abbrev pub invariant-loop-rest : goal.invariant-loop-rest
invariant-loop-rest l = l.reaches ++ all_reached l.children l.rest ≡ all_reached [] l.steps

abbrev pub decreases-loop-rest : goal.decreases-loop-rest
decreases-loop-rest l = length l.rest
