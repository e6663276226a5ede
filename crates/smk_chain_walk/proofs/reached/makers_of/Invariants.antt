use Rattle.std.proofs.Common.{◌≡◌, ◌++◌}
use Rattle.indexmap.specs.IndexMap.{values}
use Rattle.smk_chain_walk.proofs.reached.makers_of.Given as goal

abbrev pub invariant-loop-maker : goal.invariant-loop-maker
invariant-loop-maker l = l.makers ++ l.maker-iterator ≡ values l.fn.done
