use Rattle.std.proofs.Common.{◌≡◌, ◌++◌, take}
use Rattle.smk_choose.specs.Readings.{folders_in}
use Rattle.smk_choose.proofs.readings.add_folders.Given as goal

abbrev pub invariant-loop-out : goal.invariant-loop-out
invariant-loop-out l = l.found ≡ l.initial.found ++ folders_in l.limits (take l.out-index l.outs)
