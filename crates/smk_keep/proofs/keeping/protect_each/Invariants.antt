use Rattle.std.proofs.Common.{false, take}
use Rattle.smk_world.specs.Devices.{HasCarried}
use Rattle.smk_keep.specs.Keeping.{protect_each}
use Rattle.smk_keep.proofs.keeping.protect_each.Given as goal

abbrev pub invariant-loop-place : goal.invariant-loop-place
invariant-loop-place g l = HasCarried g.W.Files.act (protect_each (take l.place-index l.places)) (g.W.Files.device l.fn.work) (g.W.Files.device l.work) false
