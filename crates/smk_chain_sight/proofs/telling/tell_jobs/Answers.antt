use Rattle.std.proofs.Common.{take}
use Rattle.smk_world.proofs.Devices.{looked_then, looked_on, looked_nothing}
use Rattle.smk_chain_sight.proofs.Eyes.{told_nothing, told_then, jobs_on, JobTold}
use Rattle.smk_chain_sight.proofs.Taken.{all_taken, all_done}
use Rattle.smk_chain_sight.proofs.telling.tell_jobs.Goals as goal

pub returns-in_err-tell_places-clause-looked : goal.returns-in_err-tell_places-clause-looked
returns-in_err-tell_places-clause-looked g c =
    looked_then c.loop-job.invariant.looked (looked_on _ c.in_err-tell_places.was c.from_residual.ensures.1 c.tell_places.ensures.looked)

pub loop-job-init : goal.loop-job-init
loop-job-init g c = record { looked = looked_nothing g.W.Files.act _; told = told_nothing _ _ _; listed = tt }

pub loop-job-preserved : goal.loop-job-preserved
loop-job-preserved g c =
    let v = c.loop-job.invariant in
    let flow = c.args.flow.now in
    record {
      looked = looked_then v.looked c.in_ok-tell_places.ensures.looked;
      told = told_then v.looked v.told c.in_ok-tell_places.ensures.told;
      listed = all_taken (JobTold flow c.tell_places.new.eye) c.args.jobs.now c.loop-job.job-index c.job-item.result c.loop-job-test.true c.job-item.is
          (jobs_on flow c.loop-job.eye c.tell_places.new.eye (take c.loop-job.job-index c.args.jobs.now) c.in_ok-tell_places.ensures.told.keeps v.listed)
          c.in_ok-tell_places.ensures.listed;
    }

pub returns-clause-looked : goal.returns-clause-looked
returns-clause-looked g c = c.loop-job.invariant.looked

pub returns-clause-listed : goal.returns-clause-listed
returns-clause-listed g c = all_done (JobTold c.args.flow.now c.loop-job.eye) c.args.jobs.now c.loop-job.job-index c.loop-job-test.false c.loop-job.invariant.listed

pub returns-clause-told : goal.returns-clause-told
returns-clause-told g c = c.loop-job.invariant.told
