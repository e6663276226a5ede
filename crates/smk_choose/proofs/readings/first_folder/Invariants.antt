use Rattle.std.proofs.Common.{◌≡◌, drop}
use Rattle.smk_choose.specs.Readings.{first_folder}
use Rattle.smk_choose.proofs.readings.first_folder.Given as goal

abbrev pub invariant-loop-out : goal.invariant-loop-out
invariant-loop-out l = first_folder l.outs ≡ first_folder (drop l.out-index l.outs)
