use Rattle.std.proofs.Common.{◌≡◌, drop}
use Rattle.smk_plan_live.specs.Learning.{forgotten}
use Rattle.smk_plan_live.proofs.learning.forget_each.Given as goal

abbrev pub invariant-loop-number : goal.invariant-loop-number
invariant-loop-number l = forgotten l.own.items (drop l.number-index l.numbers) ≡ forgotten l.initial.own.items l.numbers
