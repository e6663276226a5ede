use Rattle.std.proofs.Common.{false, take}
use Rattle.smk_world.specs.Devices.{WhereTold, HasLooked}
use Rattle.smk_digest.specs.Digests.{AreContents}
use Rattle.smk_digest.proofs.reading.contents_at.Given as goal

abbrev pub invariant-loop-path : goal.invariant-loop-path
invariant-loop-path g l = record {
  looked : HasLooked g.W.Files.act (g.W.Files.device l.fn.work) (g.W.Files.device l.work) false;
  told : WhereTold (g.W.Files.device l.fn.work) (λ w. AreContents w (take l.path-index l.paths) l.contents);
}
