use Rattle.std.proofs.Common.{◌≡◌, drop}
use Rattle.smk_plan_states.specs.Ranking.{lacks}
use Rattle.smk_plan_states.proofs.downward.lacks.Given as goal

abbrev pub invariant-loop-whole : goal.invariant-loop-whole
invariant-loop-whole l = lacks l.flags ≡ lacks (drop l.whole-index l.flags)
