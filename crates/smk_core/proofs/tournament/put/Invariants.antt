use Rattle.smk_core.proofs.Trees.{IsLifting}
use Rattle.smk_core.proofs.tournament.put.Given as goal

abbrev pub invariant-loop-node : goal.invariant-loop-node
invariant-loop-node l = IsLifting l.places l.at l.number l.fn.nodes.items l.nodes.items l.node

abbrev pub decreases-loop-node : goal.decreases-loop-node
decreases-loop-node l = l.node
