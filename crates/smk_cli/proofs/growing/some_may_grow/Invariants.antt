-- some_may_grow
use Rattle.std.proofs.Common.{◌≡◌, drop}
use Rattle.smk_flow.specs.Numbers.{parts_of}
use Rattle.smk_cli_calls.specs.OneByOne.{grows}
use Rattle.smk_cli.proofs.growing.some_may_grow.Given as goal

abbrev pub invariant-loop-rule : goal.invariant-loop-rule
invariant-loop-rule l = grows (parts_of l.rules) ≡ grows (parts_of (drop l.rule-index l.rules))
