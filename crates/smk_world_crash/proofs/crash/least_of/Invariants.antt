use Rattle.std.proofs.Common.{◌≡◌, length}
use Rattle.smk_world_crash.specs.Crash.{least_of}
use Rattle.smk_world_crash.proofs.crash.least_of.Given as goal

abbrev pub invariant-loop-rest : goal.invariant-loop-rest
invariant-loop-rest l = least_of l.now l.others ≡ least_of l.least l.rest

abbrev pub decreases-loop-rest : goal.decreases-loop-rest
decreases-loop-rest l = length l.rest
