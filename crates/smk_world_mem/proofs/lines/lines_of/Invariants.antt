use Rattle.std.proofs.Common.{◌≡◌, ◌++◌, [], length}
use Rattle.smk_world_mem.specs.Act.{lines_from}
use Rattle.smk_world_mem.proofs.lines.lines_of.Given as goal

abbrev pub invariant-loop-rest : goal.invariant-loop-rest
invariant-loop-rest l = l.lines ++ lines_from l.line.items l.rest ≡ lines_from [] l.bytes

abbrev pub decreases-loop-rest : goal.decreases-loop-rest
decreases-loop-rest l = length l.rest
