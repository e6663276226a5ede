-- What stays as it was.
use Rattle.std.specs.Prelude.{◌≡◌, false, List, Option}
use Rattle.smk_world.specs.declared.event.Node.{Node}
use Rattle.smk_world.specs.declared.event.NodeState.{NodeState}
use Rattle.smk_world.specs.World.{World, reading, MayLeave, is_within, is_above}
use Rattle.smk_world.specs.Trees.{Path}

-- the node reads as before, and a crash leaves nothing new
abbrev pub Stays : NodeState → NodeState → Type 0
Stays s t = (reading s ≡ reading t) × ((n : Option Node) → MayLeave t n → MayLeave s n)

-- nodes and children are the same
abbrev pub IsSame : World → World → Type 0
IsSame entry exit = ((q : Path) → entry.nodes q ≡ exit.nodes q) × (entry.children ≡ exit.children)

-- nothing has changed but what is at or under some places, and folders above others
abbrev pub ChangesOnly : List Path → List Path → World → World → Type 0
ChangesOnly places below entry exit =
    (q : Path) → is_within q places ≡ false → is_above q below ≡ false → Stays (entry.nodes q) (exit.nodes q)
