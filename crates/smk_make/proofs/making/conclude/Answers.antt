use Rattle.std.proofs.Common.{refl, inl, inr}
use Rattle.smk_make.specs.After.{IsAfter}
use Rattle.smk_make.proofs.Made.{verdict, closed_by, of_report_quiet}
use Rattle.smk_make.proofs.making.conclude.Goals as goal

pub returns-in-Err-clause-concluded : goal.returns-in-Err-clause-concluded
returns-in-Err-clause-concluded g c = inr (c.in-Err.fault, refl, c.in-Err.ensures.faults)

pub returns-in-Err-clause-no_device : goal.returns-in-Err-clause-no_device
returns-in-Err-clause-no_device g c = of_report_quiet c.in-Err.fault c.in-Err.ensures.faults

pub returns-in-Ok-clause-concluded : goal.returns-in-Ok-clause-concluded
returns-in-Ok-clause-concluded g c = inl c.answer.ensures

pub returns-in-Ok-clause-told : goal.returns-in-Ok-clause-told
returns-in-Ok-clause-told g c =
    closed_by c.args.jobs.now c.args.targets.now c.args.tally (IsAfter c.args.duties.now c.args.jobs.now.befores c.args.tally) c.answer.result c.report_end.result _ _ _ c.in-Ok.is
    (verdict c.args.tally c.answer.result c.answer.ensures c.requires.job_failed) c.report_end.ensures.told

pub returns-in-Ok-clause-no_device : goal.returns-in-Ok-clause-no_device
returns-in-Ok-clause-no_device g c = (verdict c.args.tally c.answer.result c.answer.ensures c.requires.job_failed).device
