use Rattle.std.proofs.Common.{◌≡◌, ◌++◌, drop}
use Rattle.smk_run.specs.Digesting.{summed}
use Rattle.smk_run.specs.Stamps.{number_at}
use Rattle.smk_run.proofs.summing.summed.Given as goal

abbrev pub invariant-loop-number : goal.invariant-loop-number
invariant-loop-number l = summed (number_at l.serials) l.paths l.seen l.sums ≡ l.stamps ++ summed (number_at l.serials) (drop l.number l.paths) (drop l.number l.seen) l.left
