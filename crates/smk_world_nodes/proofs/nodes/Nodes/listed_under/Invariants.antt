use Rattle.std.proofs.Common.{◌≡◌, ◌++◌}
use Rattle.smk_world_nodes.proofs.Changes.{texts, entry_texts}
use Rattle.smk_world_nodes.proofs.nodes.Nodes.listed_under.Given as goal

abbrev pub invariant-loop-key : goal.invariant-loop-key
invariant-loop-key l = texts l.keys.items ++ entry_texts l.key-iterator ≡ entry_texts l.initial.key-iterator
