use Rattle.std.proofs.Common.{◌≡◌, ◌++◌, take, map}
use Rattle.std.specs.Option.{option_map}
use Rattle.smk_world.specs.World.{protected}
use Rattle.smk_world_crash.proofs.states.push_guarded.Given as goal

abbrev pub invariant-loop-node : goal.invariant-loop-node
invariant-loop-node l = l.all ≡ l.fn.all ++ map (option_map protected) (take l.node-index l.node-items)
