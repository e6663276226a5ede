use Rattle.std.proofs.Common.{false, take}
use Rattle.std.specs.List.{AllByRecursion}
use Rattle.smk_world.specs.Devices.{HasLooked}
use Rattle.smk_chain_sight.specs.Telling.{HasTold, IsListedAround}
use Rattle.smk_chain_sight.proofs.reaching.last.Given as goal

abbrev pub invariant-loop-path : goal.invariant-loop-path
invariant-loop-path g l = record {
  looked : HasLooked g.W.Files.act (g.W.Files.device l.fn.work) (g.W.Files.device l.work) false;
  told : HasTold (g.W.Files.device l.fn.work) l.store l.fn.eye l.eye;
  listed : AllByRecursion (IsListedAround l.flow l.eye) (take l.path-index l.fresh);
}
