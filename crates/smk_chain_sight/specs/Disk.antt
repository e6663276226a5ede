-- What running children own, as far as sources are looked for.
use Rattle.std.specs.Prelude.{◌≡◌, true, List}
use Rattle.smk_world.specs.declared.event.NodeState.TheVariants.{Owned}
use Rattle.smk_world.specs.World.{World}
use Rattle.smk_world.specs.Trees.{Path, is_path_text}
use Rattle.smk_store.specs.Stores.{Known, is_covered_in}

-- Each user's path that a running child owns has a record, a mark or a note, at itself or at a folder above it: so it is no source, whatever stands there.
abbrev pub IsOwnedCovered : World → List Known → Type 0
IsOwnedCovered w store = (q : Path) → is_path_text q ≡ true → w.nodes q ≡ Owned → is_covered_in store q ≡ true
