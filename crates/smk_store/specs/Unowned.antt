-- What is no running child's.
use Rattle.std.specs.Prelude.{◌≡◌, ◌≢◌, true}
use Rattle.smk_base.specs.Path.{is_at_or_under}
use Rattle.smk_world.specs.declared.event.NodeState.{NodeState}
use Rattle.smk_world.specs.declared.event.NodeState.TheVariants.{Owned}
use Rattle.smk_world.specs.World.{World}
use Rattle.smk_world.specs.Trees.{Path}

-- no running child owns the path, nor anything under it
abbrev pub IsUnownedUnder : (Path → NodeState) → Path → Type 0
IsUnownedUnder nodes p = (q : Path) → is_at_or_under q p ≡ true → nodes q ≢ Owned

-- no running child owns a place
abbrev pub NoneOwned : World → Type 0
NoneOwned w = (q : Path) → w.nodes q ≢ Owned
