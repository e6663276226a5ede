use Rattle.std.proofs.Common.{◌≡◌, ℕ, List, length}
use Rattle.smk_world.specs.World.{standing}
use Rattle.smk_world_nodes.specs.Nodes.{node_at}
use Rattle.smk_world_mem.specs.Act.{or_then}
use Rattle.smk_world_mem.proofs.crew.put_each.Given as goal

abbrev pub invariant-loop-rest : goal.invariant-loop-rest
invariant-loop-rest l = (q : List ℕ) → or_then (node_at l.nodes q) (standing l.rest q) ≡ or_then (node_at l.fn.nodes q) (standing l.left q)

abbrev pub decreases-loop-rest : goal.decreases-loop-rest
decreases-loop-rest l = length l.rest
