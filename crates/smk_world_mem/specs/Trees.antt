-- What the workspace tells is a tree.
use Rattle.std.specs.Prelude.{◌≡◌, ℕ, Bool, true, false, List, Some}
use Rattle.std.proofs.Common.{subst, refl}
use Rattle.smk_world.specs.declared.event.Child.{Child}
use Rattle.smk_world.specs.World.{World}
use Rattle.smk_world.specs.Folders.{IsTree}
use Rattle.smk_world_nodes.specs.Steps.{Agrees, Orderly, Rooted, told_world, replay, empty_world}
use Rattle.smk_world_nodes.specs.declared.nodes.Nodes.{Nodes}
use Rattle.smk_world_nodes.specs.declared.step.Step.{Step}
use Rattle.smk_world_nodes.proofs.Held.{tree_seen}

same_world : (v w : World) → Some v ≡ Some w → v ≡ w
same_world v w e = cc

pub tree_told : (told : Bool) (nodes : Nodes) (steps : List Step) (children : List Child) (next : ℕ) → Agrees told nodes steps → Orderly told steps children next → Rooted told nodes → (w : World) → told_world told steps ≡ Some w → IsTree w
tree_told true nodes steps children next agrees orderly rooted w e = subst IsTree (same_world _ _ e) (tree_seen nodes (replay empty_world steps) (agrees refl) (orderly refl).owned (orderly refl).held (rooted refl))
tree_told false nodes steps children next agrees orderly rooted w e = cc
