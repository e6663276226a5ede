use Rattle.smk_plan_live.specs.Learning.{FitStill}
use Rattle.smk_plan_live.proofs.learning.learn_some.Given as goal

abbrev pub invariant-loop-number : goal.invariant-loop-number
invariant-loop-number g l = FitStill l.base l.forced l.initial.own.items l.own.items
