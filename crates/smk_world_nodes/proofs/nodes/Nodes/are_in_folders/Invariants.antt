use Rattle.smk_world_nodes.proofs.Stood.{AllStand}
use Rattle.smk_world_nodes.proofs.nodes.Nodes.are_in_folders.Given as goal

abbrev pub invariant-loop-key : goal.invariant-loop-key
invariant-loop-key l = AllStand l.self l.key-iterator → AllStand l.self l.initial.key-iterator
