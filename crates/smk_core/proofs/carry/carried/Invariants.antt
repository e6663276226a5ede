use Rattle.smk_core.proofs.Carried.{IsCarrying}
use Rattle.smk_core.proofs.carry.carried.Given as goal

abbrev pub invariant-loop-job : goal.invariant-loop-job
invariant-loop-job l = IsCarrying l.moved l.count l.phases l.job l.made.items
