use Rattle.std.proofs.Common.{◌≡◌, false, drop}
use Rattle.std.specs.List.{list_any}
use Rattle.smk_world.specs.Devices.{WhereTold, HasLooked}
use Rattle.smk_store.specs.Images.{Image, is_source}
use Rattle.smk_chain_sight.specs.Viewing.{Viewed, AreSighted}
use Rattle.smk_chain_sight.proofs.seeing.any_source.Given as goal

abbrev pub invariant-loop-path : goal.invariant-loop-path
invariant-loop-path g l = record {
  looked : HasLooked g.W.Files.act (g.W.Files.device l.fn.work) (g.W.Files.device l.work) false;
  told : WhereTold (g.W.Files.device l.fn.work) (λ w. (image : Image) → Viewed w.nodes l.store image → AreSighted image l.fn.seen
      → (list_any (is_source image) l.paths ≡ list_any (is_source image) (drop l.path-index l.paths)) × AreSighted image l.seen);
}
