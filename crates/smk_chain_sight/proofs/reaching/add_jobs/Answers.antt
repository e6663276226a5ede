use Rattle.smk_chain_sight.specs.Reaching.{paths_by, IsPlaced}
use Rattle.smk_chain_sight.proofs.Taken.{all_at}
use Rattle.smk_chain_sight.proofs.Spreading.{loop_begun, loop_step, loop_done}
use Rattle.smk_chain_sight.proofs.reaching.add_jobs.Goals as goal

pub loop-job-init : goal.loop-job-init
loop-job-init c = record { kept = c.requires.kept; added = loop_begun (paths_by c.args.flow.now c.args.lists.now) c.args.jobs.now c.args.found.now.paths.items c.requires.kept.each }

pub add_job-requires-clause-placed : goal.add_job-requires-clause-placed
add_job-requires-clause-placed c = all_at (IsPlaced c.args.flow.now) c.args.jobs.now c.loop-job.job-index c.job-item.result c.requires.placed c.loop-job-test.true c.job-item.is

pub loop-job-preserved : goal.loop-job-preserved
loop-job-preserved c =
    record {
      kept = c.in_ok-add_job.ensures.kept;
      added = loop_step (paths_by c.args.flow.now c.args.lists.now) c.args.jobs.now c.loop-job.job-index c.job-item.result c.args.found.now.paths.items c.loop-job.found.paths.items _ c.loop-job-test.true c.job-item.is c.loop-job.invariant.added
          c.in_ok-add_job.ensures.added;
    }

pub returns-clause-added : goal.returns-clause-added
returns-clause-added c = loop_done (paths_by c.args.flow.now c.args.lists.now) c.args.jobs.now c.loop-job.job-index c.args.found.now.paths.items _ c.loop-job-test.false c.loop-job.invariant.added
