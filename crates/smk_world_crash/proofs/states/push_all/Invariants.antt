use Rattle.std.proofs.Common.{◌≡◌, ◌++◌, take}
use Rattle.smk_world_crash.proofs.states.push_all.Given as goal

abbrev pub invariant-loop-node : goal.invariant-loop-node
invariant-loop-node l = l.all ≡ l.fn.all ++ take l.node-index l.node-items
