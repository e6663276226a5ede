use Rattle.std.proofs.Common.{List, ◌++◌, Option, false, length}
use Rattle.smk_base.specs.declared.sum.Sum.{Sum as Digest}
use Rattle.smk_world.specs.Devices.{WhereTold, HasLooked}
use Rattle.smk_digest.specs.Digests.{AreSums}
use Rattle.smk_digest.proofs.summing.sums_at.Given as goal

abbrev pub invariant-all : goal.invariant-all
invariant-all g l = record {
  looked : HasLooked g.W.Files.act (g.W.Files.device l.fn.work) (g.W.Files.device l.work) false;
  told : WhereTold (g.W.Files.device l.fn.work) (λ w. (later : List (Option Digest)) → AreSums w l.rest later → AreSums w l.paths (l.found ++ later));
}

abbrev pub decreases-all : goal.decreases-all
decreases-all g l = length l.rest
