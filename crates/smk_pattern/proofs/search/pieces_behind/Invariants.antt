use Rattle.std.proofs.Common.{◌≡◌, ◌++◌, List, length}
use Rattle.smk_pattern.specs.Shapes.{Part}
use Rattle.smk_pattern.specs.Pieces.{parts_of}
use Rattle.smk_pattern.proofs.Behind.{IsNoted}
use Rattle.smk_pattern.proofs.search.pieces_behind.Given as goal

abbrev pub invariant-places : goal.invariant-places
invariant-places l = (front : List Part) × (parts_of l.pieces ≡ front ++ parts_of l.ahead) × IsNoted l.behind.items front (length l.ahead)

abbrev pub decreases-places : goal.decreases-places
decreases-places l = length l.ahead
