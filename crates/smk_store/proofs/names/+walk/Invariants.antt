use Rattle.std.proofs.Common.{◌-◌, false, length, take}
use Rattle.std.specs.BTreeSet.{contains_text}
use Rattle.smk_world.specs.Devices.{WhereTold, HasLooked}
use Rattle.smk_store.specs.Unowned.{IsUnownedUnder}
use Rattle.smk_store.specs.Loading.{store_folder}
use Rattle.smk_store.proofs.Finding.{SoFar}
use Rattle.smk_store.proofs.names.+walk.Given as goal

abbrev pub decreases-walk : goal.decreases-walk
decreases-walk g l = 1000 - length l.front.now

abbrev pub invariant-loop-name : goal.invariant-loop-name
invariant-loop-name g l = record {
  looked : HasLooked g.W.Files.act (g.W.Files.device l.fn.work) (g.W.Files.device l.work) false;
  told : WhereTold (g.W.Files.device l.fn.work) (λ w. IsUnownedUnder w.nodes store_folder
      → SoFar w.nodes l.folder l.front (λ q. contains_text l.fn.found q) (λ q. contains_text l.found q) (take l.name-index l.names));
}
