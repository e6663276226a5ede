use Rattle.std.proofs.Common.{◌≡◌, ◌++◌, false, take, bytes_eq}
use Rattle.std.specs.List.{AllByRecursion, flat_map}
use Rattle.smk_world.specs.Devices.{HasLooked}
use Rattle.smk_choose.specs.Choose.{Sources}
use Rattle.smk_chain.specs.Derive.{distinct, next}
use Rattle.smk_chain_sight.specs.Telling.{HasTold, IsListedAround, Says}
use Rattle.smk_chain_sight.specs.Reaching.{AreKept}
use Rattle.smk_chain_sight.proofs.reaching.level.Given as goal

abbrev pub invariant-loop-path : goal.invariant-loop-path
invariant-loop-path g l = record {
  looked : HasLooked g.W.Files.act (g.W.Files.device l.fn.work) (g.W.Files.device l.work) false;
  told : HasTold (g.W.Files.device l.fn.work) l.ground.store.now l.fn.eye l.eye;
  kept : AreKept l.found;
  added : (S : Sources) → Says l.eye S → l.found.paths.items ≡ distinct bytes_eq (l.fn.found.paths.items ++ flat_map (next l.ground.flow.now S l.ground.lists.now) (take l.path-index l.fresh));
  listed : AllByRecursion (IsListedAround l.ground.flow.now l.eye) (take l.path-index l.fresh);
}
