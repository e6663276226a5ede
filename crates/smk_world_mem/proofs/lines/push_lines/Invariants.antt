use Rattle.std.proofs.Common.{◌≡◌, ◌++◌, length}
use Rattle.smk_world_mem.specs.Act.{line_files}
use Rattle.smk_world_mem.proofs.lines.push_lines.Given as goal

abbrev pub invariant-loop-rest : goal.invariant-loop-rest
invariant-loop-rest l = l.left ++ line_files l.folder l.number l.rest l.now ≡ l.fn.left ++ line_files l.folder 1 l.lines l.now

abbrev pub decreases-loop-rest : goal.decreases-loop-rest
decreases-loop-rest l = length l.rest
