use Rattle.std.proofs.Common.{◌≡◌, take}
use Rattle.smk_chain_walk.specs.Heights.{paths_in}
use Rattle.smk_chain_walk.proofs.climbing.paths_in.Given as goal

abbrev pub invariant-loop-want : goal.invariant-loop-want
invariant-loop-want l = l.made ≡ paths_in (take l.want-index l.wants)
