use Rattle.std.proofs.Common.{◌≡◌, ◌-◌, true, false, length, take}
use Rattle.std.specs.Prelude.{All}
use Rattle.smk_world.specs.Trees.{is_path_text}
use Rattle.smk_world.specs.Devices.{WhereTold, HasLooked}
use Rattle.smk_store.specs.Images.{Image}
use Rattle.smk_chain_sight.specs.Viewing.{Viewed}
use Rattle.smk_chain_sight.proofs.Stand.{NoneAt}
use Rattle.smk_chain_sight.proofs.seeing.+has_under.Given as goal

abbrev pub decreases-has_under : goal.decreases-has_under
decreases-has_under g l = 1000 - length l.folder.now

abbrev pub invariant-loop-name : goal.invariant-loop-name
invariant-loop-name g l = record {
  looked : HasLooked g.W.Files.act (g.W.Files.device l.fn.work) (g.W.Files.device l.work) false;
  told : WhereTold (g.W.Files.device l.fn.work) (λ w. (image : Image) → Viewed w.nodes l.store image → is_path_text l.folder ≡ true
      → All (NoneAt image l.folder) (take l.name-index l.name-items));
}
