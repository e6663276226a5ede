use Rattle.std.proofs.Common.{◌≡◌, map, take, None}
use Rattle.smk_flow.specs.declared.job.Job.{Job}
use Rattle.smk_plan_live.proofs.carried.nothing.Given as goal

abbrev pub invariant-loop-job : goal.invariant-loop-job
invariant-loop-job g l = l.found.items ≡ map (λ (j : Job). None) (take l._job-index l.jobs)
