use Rattle.std.proofs.Common.{◌≡◌, length}
use Rattle.smk_world_mem.specs.Act.{values_of}
use Rattle.smk_world_mem.proofs.command.values_of.Given as goal

abbrev pub invariant-loop-rest : goal.invariant-loop-rest
invariant-loop-rest l = values_of l.name l.rest ≡ values_of l.name l.params

abbrev pub decreases-loop-rest : goal.decreases-loop-rest
decreases-loop-rest l = length l.rest
