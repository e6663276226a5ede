use Rattle.std.proofs.Common.{subst, List}
use Rattle.std.specs.List.{AllByRecursion}
use Rattle.smk_world.proofs.Devices.{looked_on, looked_memory}
use Rattle.smk_choose.specs.declared.choice.Making.{Making}
use Rattle.smk_chain_sight.proofs.Eyes.{fitting_told, JobTold}
use Rattle.smk_chain_sight.proofs.telling.candidates_of.Goals as goal

pub returns-in_err-tell_jobs-clause-looked : goal.returns-in_err-tell_jobs-clause-looked
returns-in_err-tell_jobs-clause-looked g c =
    looked_on _ c.in_err-tell_jobs.was c.from_residual-in_err-tell_jobs.ensures.1 c.tell_jobs.ensures.looked

pub returns-in_err-jobs-clause-looked : goal.returns-in_err-jobs-clause-looked
returns-in_err-jobs-clause-looked g c =
    looked_memory _ c.from_residual-in_err-jobs.ensures.1 c.in_ok-tell_jobs.ensures.looked

pub returns-clause-looked : goal.returns-clause-looked
returns-clause-looked g c =
    c.in_ok-tell_jobs.ensures.looked

pub returns-clause-listed : goal.returns-clause-listed
returns-clause-listed g c =
    fitting_told c.args.flow.now c.tell_jobs.new.eye c.args.path.now c.in_ok-fitting.fitting.items c.in_ok-fitting.ensures
    (subst (λ (ms : List Making). AllByRecursion (JobTold c.args.flow.now c.tell_jobs.new.eye) ms) c.deref.ensures.value c.in_ok-tell_jobs.ensures.listed)

pub returns-clause-told : goal.returns-clause-told
returns-clause-told g c = c.in_ok-tell_jobs.ensures.told

pub returns-clause-jobs : goal.returns-clause-jobs
returns-clause-jobs g c = c.in_ok-jobs.ensures c.args.path.now c.in_ok-fitting.ensures
