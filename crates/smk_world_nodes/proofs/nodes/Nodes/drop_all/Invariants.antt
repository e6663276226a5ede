use Rattle.std.proofs.Common.{◌≡◌, ℕ, List, take, None}
use Rattle.std.specs.Prelude.{if◌then◌else◌}
use Rattle.smk_world_nodes.specs.Nodes.{node_at, is_listed}
use Rattle.smk_world_nodes.proofs.nodes.Nodes.drop_all.Given as goal

abbrev pub invariant-loop-place : goal.invariant-loop-place
invariant-loop-place l = (q : List ℕ) → node_at l.self q ≡ (if is_listed q (take l.place-index l.places) then None else node_at l.fn.self q)
