use Rattle.std.proofs.Common.{◌≡◌, true, false}
use Rattle.smk_world.specs.World.{reads_folder}
use Rattle.smk_world.specs.Devices.{WhereTold, HasLooked}
use Rattle.smk_store.specs.Unowned.{IsUnownedUnder}
use Rattle.smk_plan.specs.Sights.{is_tellable}
use Rattle.smk_plan_look.specs.Guards.{AreWaiting}
use Rattle.smk_plan_look.proofs.guards.has_guard.Given as goal

abbrev pub invariant-loop : goal.invariant-loop
invariant-loop g l = record {
  looked : HasLooked g.W.Files.act (g.W.Files.device l.fn.work) (g.W.Files.device l.work) false;
  told : WhereTold (g.W.Files.device l.fn.work) (λ w. IsUnownedUnder w.nodes l.folder → reads_folder (w.nodes l.folder) ≡ true → is_tellable l.folder ≡ true → AreWaiting w.nodes l.folder l.waiting);
}
