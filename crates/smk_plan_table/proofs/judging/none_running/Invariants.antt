use Rattle.std.proofs.Common.{◌≡◌, map, take, None}
use Rattle.smk_flow.specs.declared.job.Job.{Job}
use Rattle.smk_plan_table.proofs.judging.none_running.Given as goal

abbrev pub invariant-loop-job : goal.invariant-loop-job
invariant-loop-job l = l.none ≡ map (λ (j : Job). None) (take l._job-index l.jobs)
