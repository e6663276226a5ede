use Rattle.std.proofs.Common.{◌≡◌, ◌++◌, drop}
use Rattle.smk_plan_live.specs.Kept.{own_by}
use Rattle.smk_plan_live.proofs.learning.all_own.Given as goal

abbrev pub invariant-loop-number : goal.invariant-loop-number
invariant-loop-number l = l.found.items ++ own_by l.base (drop l.number l.jobs) (drop l.number l.forced) ≡ own_by l.base l.jobs l.forced
