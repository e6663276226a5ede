use Rattle.std.proofs.Common.{◌≡◌, ◌++◌, drop}
use Rattle.smk_drive_step.specs.Stamping.{summed}
use Rattle.smk_drive_step.proofs.summing.summed.Given as goal

abbrev pub invariant-loop-stamp : goal.invariant-loop-stamp
invariant-loop-stamp l = summed l.known l.sums ≡ l.stamps ++ summed (drop l.stamp-index l.known) l.left
