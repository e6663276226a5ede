use Rattle.std.proofs.Common.{◌≡◌, drop}
use Rattle.std.specs.List.{filter}
use Rattle.smk_world.specs.Trees.{first}
use Rattle.smk_chain_derive.specs.Clashes.{hinders_in}
use Rattle.smk_chain_derive.proofs.known.first_hindering.Given as goal

abbrev pub invariant-loop-path : goal.invariant-loop-path
invariant-loop-path l = first (filter (hinders_in l.store l.spot) l.paths) ≡ first (filter (hinders_in l.store l.spot) (drop l.path-index l.paths))
