use Rattle.smk_plan_live.specs.Learning.{FitStill}
use Rattle.smk_plan_live.proofs.telling.tell.Given as goal

abbrev pub invariant-loop-turn : goal.invariant-loop-turn
invariant-loop-turn g l = FitStill l.base l.forced l.initial.own.items l.own.items
