use Rattle.std.proofs.Common.{◌≡◌, take}
use Rattle.smk_world_mem.specs.Act.{joined_at}
use Rattle.smk_world_mem.proofs.crew.joined.Given as goal

abbrev pub invariant-loop-path : goal.invariant-loop-path
invariant-loop-path l = l.bytes.items ≡ joined_at l.nodes (take l.path-index l.paths)
