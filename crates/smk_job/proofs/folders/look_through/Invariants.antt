use Rattle.std.proofs.Common.{◌≡◌, false, length, take}
use Rattle.smk_world.specs.Devices.{HasActed}
use Rattle.smk_job.specs.Views.{core, AreGoodSoFar}
use Rattle.smk_job.proofs.folders.look_through.Given as goal

abbrev pub invariant-loop-i : goal.invariant-loop-i
invariant-loop-i g l = record {
  looked : HasActed g.W.Files.act (AreGoodSoFar (core l.ready.recipe l.ready.stamps l.ready.made) l.outs (take l.i l.outs) l.records) (g.W.Files.device l.fn.work) (g.W.Files.device l.work) false;
  sizes : length l.records ≡ l.i;
}
