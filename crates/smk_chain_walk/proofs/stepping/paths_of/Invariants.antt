use Rattle.std.proofs.Common.{◌≡◌, take}
use Rattle.std.specs.List.{flat_map}
use Rattle.smk_chain_walk.specs.Stepping.{path_in}
use Rattle.smk_chain_walk.proofs.stepping.paths_of.Given as goal

abbrev pub invariant-loop-want : goal.invariant-loop-want
invariant-loop-want l = l.paths ≡ flat_map path_in (take l.want-index l.wants)
