use Rattle.std.proofs.Common.{◌≡◌, false, take}
use Rattle.smk_world.specs.Devices.{WhereTold, HasLooked}
use Rattle.smk_store.specs.Sources.{AreUnowned, first_seen, is_seen}
use Rattle.smk_store.proofs.sources.first_seen.Given as goal

abbrev pub invariant-loop-source : goal.invariant-loop-source
invariant-loop-source g l = record {
  looked : HasLooked g.W.Files.act (g.W.Files.device l.fn.work) (g.W.Files.device l.work) false;
  told : WhereTold (g.W.Files.device l.fn.work) (λ w. AreUnowned w l.sources → l.first ≡ first_seen (is_seen w) (take l.source-index l.sources));
}
