use Rattle.std.proofs.Common.{◌-◌, false, drop}
use Rattle.smk_world.specs.Devices.{WhereTold}
use Rattle.smk_store_members.specs.Members.{IsOpenFolder, member_places}
use Rattle.smk_store_members.specs.Walks.{HasListings}
use Rattle.smk_store_members.specs.Steps.{AreKept, IsWalk}
use Rattle.smk_store_members.proofs.members.walk_all.Given as goal

abbrev pub decreases-members : goal.decreases-members
decreases-members g l = 20000 - l.next

abbrev pub invariant-members : goal.invariant-members
invariant-members g l = record {
  kept : AreKept l.walk.found l.walk.names l.walk.folders;
  listings : HasListings g.W.Files.act l.folder (g.W.Files.device l.fn.work) (g.W.Files.device l.work) false;
  told : WhereTold (g.W.Files.device l.fn.work) (λ w. IsOpenFolder w.nodes l.folder → IsWalk w.nodes l.folder l.walk.found (member_places l.folder (drop l.next l.walk.found)));
}
