use Rattle.smk_job.proofs.opening.begin.Goals as goal

pub returns-in-Ok-clause-begun : goal.returns-in-Ok-clause-begun
returns-in-Ok-clause-begun g c = c.in-Ok.ensures.launched

pub returns-in-Ok-clause-fresh : goal.returns-in-Ok-clause-fresh
returns-in-Ok-clause-fresh g c = c.in-Ok.ensures.fresh

pub returns-in-Err-clause-begun : goal.returns-in-Err-clause-begun
returns-in-Err-clause-begun g c = c.in-Err.ensures.launched
