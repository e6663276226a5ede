use Rattle.std.proofs.Common.{◌≡◌, length}
use Rattle.smk_world_nodes.specs.Nodes.{name_under}
use Rattle.smk_world_nodes.proofs.listing.name_in.Given as goal

abbrev pub invariant-loop-front : goal.invariant-loop-front
invariant-loop-front l = name_under l.key l.folder ≡ name_under l.rest l.front

abbrev pub decreases-loop-front : goal.decreases-loop-front
decreases-loop-front l = length l.front
