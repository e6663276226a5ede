use Rattle.std.proofs.Common.{◌≡◌, false, drop}
use Rattle.std.specs.List.{list_all}
use Rattle.smk_world.specs.Devices.{HasLooked, WhereTold}
use Rattle.smk_store.specs.Images.{Image}
use Rattle.smk_chain_sight.specs.Viewing.{Viewed}
use Rattle.smk_drive_more.specs.Sourced.{is_made_or_source}
use Rattle.smk_drive_more.proofs.sources.are_made_or_sources.Given as goal

abbrev pub invariant-loop-maker : goal.invariant-loop-maker
invariant-loop-maker g l = record {
  looked : HasLooked g.W.Files.act (g.W.Files.device l.fn.work) (g.W.Files.device l.work) false;
  told : WhereTold (g.W.Files.device l.fn.work) (λ w. (image : Image) → Viewed w.nodes l.store image
      → list_all (is_made_or_source image) l.makers ≡ list_all (is_made_or_source image) (drop l.maker-index l.makers));
}
