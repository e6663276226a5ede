use Rattle.std.proofs.Common.{◌≡◌, ◌++◌, length}
use Rattle.smk_world_mem.specs.Act.{folders_at}
use Rattle.smk_world_mem.proofs.lines.push_folders.Given as goal

abbrev pub invariant-loop-rest : goal.invariant-loop-rest
invariant-loop-rest l = l.left ++ folders_at l.rest l.bytes l.now ≡ l.fn.left ++ folders_at l.folders l.bytes l.now

abbrev pub decreases-loop-rest : goal.decreases-loop-rest
decreases-loop-rest l = length l.rest
