use Rattle.std.proofs.Common.{◌≡◌, take}
use Rattle.smk_core.proofs.jobs.copy_numbers.Given as goal

abbrev pub invariant-loop-number : goal.invariant-loop-number
invariant-loop-number l = l.made ≡ take l.number-index l.numbers
