use Rattle.std.proofs.Common.{ap}
use Rattle.smk_world.specs.World.{out_paths}
use Rattle.smk_flow.specs.declared.job.Job.{Job}
use Rattle.smk_plan_table.specs.Parts.{shown, paths_in}
use Rattle.smk_plan_table.proofs.Lists.{grown_lent}
use Rattle.smk_plan_table.proofs.outputs.outputs_of.Goals as goal

pub loop-job-preserved : goal.loop-job-preserved
loop-job-preserved c =
    grown_lent (λ (j : Job). out_paths j.recipe) c.args.jobs.now c.loop-job.job-index c.job-item.result c.loop-job-test.true c.job-item.is
    (shown c.loop-job.found.items) (shown c.push_items.new.found.items) _ c.loop-job.invariant c.in_ok-push_items.ensures (ap paths_in c.as_slice.ensures)
