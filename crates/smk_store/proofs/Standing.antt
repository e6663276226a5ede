-- What stands in a folder that is a tree.
use Rattle.std.proofs.Common.{◌≡◌, true, refl, Some, None}
use Rattle.std.specs.Prelude.{IsSome}
use Rattle.smk_base.proofs.Under.{under_folder}
use Rattle.smk_world.specs.declared.event.Node.TheVariants.{Regular, Directory}
use Rattle.smk_world.specs.declared.event.NodeState.{NodeState}
use Rattle.smk_world.specs.declared.event.NodeState.TheVariants.{Owned, Known}
use Rattle.smk_world.specs.World.{World, reading, reads_folder}
use Rattle.smk_world.specs.Calls.{in_folder}
use Rattle.smk_world.specs.Folders.{IsTree}
use Rattle.smk_world.specs.Trees.{Path}
use Rattle.smk_world.proofs.Folders.{no_folder}

folder_reads : (s : NodeState) → reading s ≡ Some Directory → reads_folder s ≡ true
folder_reads Owned h = no_folder h
folder_reads (Known None besides) h = no_folder h
folder_reads (Known (Some Directory) besides) h = refl
folder_reads (Known (Some (Regular bytes time read_only)) besides) h = absurd (cc)

-- what has something under it is a folder
pub tree_folder : (w : World) → IsTree w → (folder name : Path) → IsSome (reading (w.nodes (in_folder folder name))) → reads_folder (w.nodes folder) ≡ true
tree_folder w tree folder name some = folder_reads (w.nodes folder) ((tree (in_folder folder name) some).folders folder (under_folder folder name))
