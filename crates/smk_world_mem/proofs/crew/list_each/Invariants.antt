use Rattle.std.proofs.Common.{◌≡◌, ◌++◌, take}
use Rattle.smk_world_mem.specs.Act.{files_at}
use Rattle.smk_world_mem.proofs.crew.list_each.Given as goal

abbrev pub invariant-loop-path : goal.invariant-loop-path
invariant-loop-path l = l.left ≡ l.fn.left ++ files_at (take l.path-index l.paths) l.bytes l.time
