use Rattle.std.proofs.Common.{false, take}
use Rattle.std.specs.List.{AllByRecursion}
use Rattle.smk_world.specs.Devices.{HasLooked}
use Rattle.smk_chain_sight.specs.Telling.{HasTold}
use Rattle.smk_chain_sight.proofs.Eyes.{JobTold}
use Rattle.smk_chain_sight.proofs.telling.tell_jobs.Given as goal

abbrev pub invariant-loop-job : goal.invariant-loop-job
invariant-loop-job g l = record {
  looked : HasLooked g.W.Files.act (g.W.Files.device l.fn.work) (g.W.Files.device l.work) false;
  told : HasTold (g.W.Files.device l.fn.work) l.store l.fn.eye l.eye;
  listed : AllByRecursion (JobTold l.flow l.eye) (take l.job-index l.jobs);
}
