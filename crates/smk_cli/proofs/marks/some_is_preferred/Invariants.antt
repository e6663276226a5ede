use Rattle.std.proofs.Common.{◌≡◌, drop}
use Rattle.smk_flow.specs.Numbers.{parts_of}
use Rattle.smk_cli_calls.specs.OneByOne.{has_priorities}
use Rattle.smk_cli.proofs.marks.some_is_preferred.Given as goal

abbrev pub invariant-loop-rule : goal.invariant-loop-rule
invariant-loop-rule l = has_priorities (parts_of l.rules) ≡ has_priorities (parts_of (drop l.rule-index l.rules))
