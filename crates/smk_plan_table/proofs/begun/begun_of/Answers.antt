use Rattle.std.proofs.Common.{◌∙◌, map}
use Rattle.smk_flow.specs.declared.job.Job.{Job}
use Rattle.smk_plan.specs.States.{job_path}
use Rattle.smk_plan_table.proofs.begun.begun_of.Goals as goal

pub returns : goal.returns
returns c = c.in_ok-found.ensures ∙ (λ i. map (λ (j : Job). c.in_ok-paths.ensures (job_path j) i) c.args.jobs.now)
