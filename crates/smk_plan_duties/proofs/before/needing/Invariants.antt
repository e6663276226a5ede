use Rattle.smk_plan_duties.proofs.OneMore.{AreTold}
use Rattle.smk_plan_duties.proofs.before.needing.Given as goal

abbrev pub invariant-loop-i : goal.invariant-loop-i
invariant-loop-i l = AreTold l.befores l.number l.i l.found
