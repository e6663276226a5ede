use Rattle.std.proofs.Common.{false, take}
use Rattle.smk_world.specs.Devices.{HasActed}
use Rattle.smk_job.specs.Sights.{AreFilesSoFar}
use Rattle.smk_job.proofs.sight.look_over.Given as goal

abbrev pub invariant-loop-i : goal.invariant-loop-i
invariant-loop-i g l = HasActed g.W.Files.act (AreFilesSoFar l.outs (take l.i l.outs)) (g.W.Files.device l.fn.work) (g.W.Files.device l.work) false
