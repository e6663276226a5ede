use Rattle.std.proofs.Common.{◌≡◌, map, take}
use Rattle.smk_flow.specs.declared.job.Job.{Job}
use Rattle.smk_plan_live.specs.declared.phase.Phase.TheVariants.{Waiting}
use Rattle.smk_plan_live.proofs.carried.waiting.Given as goal

abbrev pub invariant-loop-job : goal.invariant-loop-job
invariant-loop-job l = l.found.items ≡ map (λ (j : Job). Waiting) (take l._job-index l.jobs)
