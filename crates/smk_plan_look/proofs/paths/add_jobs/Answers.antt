use Rattle.std.proofs.Common.{subst}
use Rattle.std.specs.List.{flat_map}
use Rattle.smk_plan_look.specs.Gathering.{HasAdded, item_paths, job_paths}
use Rattle.smk_plan_look.proofs.Held.{added_nothing, added_next, added_all}
use Rattle.smk_plan_look.proofs.paths.add_jobs.Goals as goal

pub loop-job-init : goal.loop-job-init
loop-job-init c = added_nothing _

pub loop-job-preserved : goal.loop-job-preserved
loop-job-preserved c =
    added_next job_paths c.args.jobs.now c.loop-job.job-index c.job-item.result c.args.paths.now c.loop-job.paths _ c.loop-job-test.true c.job-item.is c.loop-job.invariant (subst (λ is. HasAdded c.loop-job.paths c.add_items.new.paths (flat_map item_paths is)) c.as_slice.ensures c.in_ok-add_items.ensures)

pub returns : goal.returns
returns c = added_all job_paths c.args.jobs.now c.loop-job.job-index c.args.paths.now c.loop-job.paths c.loop-job-test.false c.loop-job.invariant
