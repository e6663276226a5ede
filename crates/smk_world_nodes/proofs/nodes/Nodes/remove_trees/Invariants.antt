use Rattle.std.proofs.Common.{◌≡◌, ℕ, List, take, None}
use Rattle.std.specs.Prelude.{if◌then◌else◌}
use Rattle.smk_world.specs.World.{is_within}
use Rattle.smk_world_nodes.specs.Nodes.{node_at}
use Rattle.smk_world_nodes.proofs.nodes.Nodes.remove_trees.Given as goal

abbrev pub invariant-loop-path : goal.invariant-loop-path
invariant-loop-path l = (q : List ℕ) → node_at l.self q ≡ (if is_within q (take l.path-index l.paths) then None else node_at l.fn.self q)
