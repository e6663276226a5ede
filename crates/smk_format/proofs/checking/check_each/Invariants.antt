use Rattle.std.proofs.Common.{◌≡◌, drop}
use Rattle.std.specs.List.{zip}
use Rattle.smk_format.specs.Refused.{command_fault}
use Rattle.smk_format.proofs.checking.check_each.Given as goal

abbrev pub invariant-loop-number : goal.invariant-loop-number
invariant-loop-number l = command_fault l.flow l.cores (zip l.jobs l.states) ≡ command_fault l.flow l.cores (zip (drop l.number l.jobs) (drop l.number l.states))
