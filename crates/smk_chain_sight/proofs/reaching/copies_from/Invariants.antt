use Rattle.std.proofs.Common.{◌≡◌, ◌++◌, ◌-◌, drop, length}
use Rattle.smk_chain_sight.proofs.reaching.copies_from.Given as goal

abbrev pub decreases-paths : goal.decreases-paths
decreases-paths l = length l.found.paths.items - l.at

abbrev pub invariant-paths : goal.invariant-paths
invariant-paths l = l.copies.items ++ drop l.at l.found.paths.items ≡ drop l.from l.found.paths.items
