use Rattle.std.proofs.Common.{◌≡◌, [], map, take}
use Rattle.smk_flow.specs.declared.job.Job.{Job}
use Rattle.smk_plan_live.proofs.readers.nobody.Given as goal

abbrev pub invariant-loop-job : goal.invariant-loop-job
invariant-loop-job l = l.found.items ≡ map (λ (j : Job). []) (take l._job-index l.jobs)
