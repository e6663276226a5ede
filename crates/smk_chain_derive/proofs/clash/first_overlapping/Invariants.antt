use Rattle.std.proofs.Common.{◌≡◌, drop}
use Rattle.std.specs.List.{filter}
use Rattle.smk_base.specs.Path.{overlaps}
use Rattle.smk_world.specs.Trees.{first}
use Rattle.smk_chain_derive.specs.Clashes.{spot_paths}
use Rattle.smk_chain_derive.proofs.clash.first_overlapping.Given as goal

abbrev pub invariant-loop-spot : goal.invariant-loop-spot
invariant-loop-spot l = first (filter (overlaps l.path) (spot_paths l.earlier)) ≡ first (filter (overlaps l.path) (spot_paths (drop l.spot-index l.earlier)))
