use Rattle.smk_core.proofs.Behind.{AreBehindTo}
use Rattle.smk_core.proofs.jobs.behind_of.Given as goal

abbrev pub invariant-loop-job : goal.invariant-loop-job
invariant-loop-job l = AreBehindTo l.befores l.behind.items l.job
