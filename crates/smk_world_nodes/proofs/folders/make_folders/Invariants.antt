use Rattle.std.proofs.Common.{◌≡◌, ℕ, List, None}
use Rattle.std.specs.Prelude.{if◌then◌else◌}
use Rattle.smk_world_nodes.specs.Nodes.{node_at, or_folder, is_listed}
use Rattle.smk_world_nodes.proofs.Above.{is_short_above}
use Rattle.smk_world_nodes.proofs.folders.make_folders.Given as goal

abbrev pub invariant-loop-i : goal.invariant-loop-i
invariant-loop-i l = record {
  made : (q : List ℕ) → node_at l.nodes q ≡ (if is_short_above l.text l.i q then or_folder (node_at l.fn.nodes q) else node_at l.fn.nodes q);
  back : (q : List ℕ) → (if is_listed q l.made.items then None else node_at l.nodes q) ≡ (if is_listed q l.fn.made.items then None else node_at l.fn.nodes q);
}
