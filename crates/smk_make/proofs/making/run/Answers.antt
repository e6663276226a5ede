use Rattle.smk_make.proofs.Made.{made_fault, made_ok, job_failed}
use Rattle.smk_make.proofs.making.run.Goals as goal

pub conclude-requires : goal.conclude-requires
conclude-requires g c = record { lower = c.requires.lower; job_failed = job_failed g.W.Files.act _ _ c.args.targets.now c.args.jobs.now _ _ _ _ c.run_jobs.result c.in-Ok.tally _ _ c.in-Ok.is c.run_jobs.ensures }

pub returns-in-Err : goal.returns-in-Err
returns-in-Err g c = made_fault g.W.Files.act _ _ c.args.targets.now c.args.jobs.now _ _ _ _ c.run_jobs.result c.in-Err.fault _ _ c.in-Err.is c.run_jobs.ensures

pub returns-in-Ok : goal.returns-in-Ok
returns-in-Ok g c =
    made_ok g.W.Files.act _ _ c.args.targets.now c.args.jobs.now _ _ _ _ c.run_jobs.result c.in-Ok.tally c.conclude.result _ _ _ c.requires.each c.in-Ok.is c.run_jobs.ensures c.conclude.ensures.concluded c.conclude.ensures.told
