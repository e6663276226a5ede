use Rattle.std.proofs.Common.{false, take}
use Rattle.smk_world.specs.Devices.{HasCarried}
use Rattle.smk_store.specs.Steps.{write_each}
use Rattle.smk_store.proofs.steps.write_each.Given as goal

abbrev pub invariant-loop-i : goal.invariant-loop-i
invariant-loop-i g l = HasCarried g.W.Files.act (write_each (take l.i l.places) (take l.i l.bytes)) (g.W.Files.device l.fn.work) (g.W.Files.device l.work) false
