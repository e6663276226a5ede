use Rattle.std.proofs.Common.{false, take}
use Rattle.smk_world.specs.Devices.{HasCarried}
use Rattle.smk_store.specs.Steps.{remove_each}
use Rattle.smk_keep.proofs.keeping.remove_each.Given as goal

abbrev pub invariant-loop-place : goal.invariant-loop-place
invariant-loop-place g l = HasCarried g.W.Files.act (remove_each (take l.place-index l.places)) (g.W.Files.device l.fn.work) (g.W.Files.device l.work) false
