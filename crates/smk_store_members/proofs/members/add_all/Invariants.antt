use Rattle.std.proofs.Common.{◌∷◌, List, take}
use Rattle.smk_world.specs.Trees.{Path, Each}
use Rattle.smk_store_members.specs.Members.{Nodes}
use Rattle.smk_store_members.specs.Steps.{AreKept, IsWalk, IsFront, IsNameIn, HasGoneOn, AreAllFound}
use Rattle.smk_store_members.proofs.members.add_all.Given as goal

abbrev pub invariant-loop-name : goal.invariant-loop-name
invariant-loop-name l = record {
  kept : AreKept l.walk.found l.walk.names l.walk.folders;
  added : (nodes : Nodes) (g : Path) (open_at : List Path) → IsWalk nodes l.path l.initial.walk.found (g ∷ open_at) → IsFront l.path l.initial.walk.found l.front g → Each (IsNameIn nodes g) l.names
      → HasGoneOn nodes l.path (g ∷ open_at) l.initial.walk.found l.walk.found × AreAllFound l.walk.found l.front (take l.name-index l.names);
}
