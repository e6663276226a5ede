use Rattle.std.proofs.Common.{◌≡◌, ℕ, List, Some, true}
use Rattle.smk_world.specs.declared.event.Node.TheVariants.{Directory}
use Rattle.smk_world_nodes.specs.Nodes.{node_at}
use Rattle.smk_world_nodes.proofs.Above.{is_short_above}
use Rattle.smk_world_nodes.proofs.rooted.has_folders.Given as goal

abbrev pub invariant-loop-i : goal.invariant-loop-i
invariant-loop-i l = (f : List ℕ) → is_short_above l.p l.i f ≡ true → node_at l.nodes f ≡ Some Directory
