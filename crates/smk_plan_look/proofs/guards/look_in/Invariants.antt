use Rattle.std.proofs.Common.{◌≡◌, true, false, take}
use Rattle.smk_world.specs.World.{reads_folder}
use Rattle.smk_world.specs.Devices.{WhereTold, HasLooked}
use Rattle.smk_store.specs.Unowned.{IsUnownedUnder}
use Rattle.smk_plan.specs.Sights.{is_tellable}
use Rattle.smk_plan_look.proofs.Waiting.{HasGone}
use Rattle.smk_plan_look.proofs.guards.look_in.Given as goal

abbrev pub invariant-loop-name : goal.invariant-loop-name
invariant-loop-name g l = record {
  looked : HasLooked g.W.Files.act (g.W.Files.device l.fn.work) (g.W.Files.device l.work) false;
  told : WhereTold (g.W.Files.device l.fn.work) (λ w. IsUnownedUnder w.nodes l.folder → is_tellable l.folder ≡ true → reads_folder (w.nodes l.folder) ≡ true
      → HasGone w.nodes l.folder (take l.name-index l.name-items) l.fn.waiting l.waiting);
}
