use Rattle.smk_plan_preview.proofs.DerivedJobs.{lists_as, derives_as, memory_quiet, memory_sink, memory_untold}
use Rattle.smk_plan_preview.proofs.finding.derived.Goals as goal

pub returns-in-Ok-clause-lists : goal.returns-in-Ok-clause-lists
returns-in-Ok-clause-lists c = lists_as c.derived_with.result _ _ c.in-Ok.ensures.ok c.derived_with.ensures.lists

pub returns-in-Ok-clause-told : goal.returns-in-Ok-clause-told
returns-in-Ok-clause-told c = λ image names st listed sighted.
    derives_as c.args.flow.now c.args.targets.now c.args.sources.now image c.derived_with.result _ _ c.in-Ok.ensures.ok sighted (λ s. c.derived_with.ensures.told image names st listed s)

pub returns-in-Err-clause-no_device : goal.returns-in-Err-clause-no_device
returns-in-Err-clause-no_device c = memory_quiet c.in-Err.fault c.in-Err.ensures.fault

pub returns-in-Err-clause-no_sink : goal.returns-in-Err-clause-no_sink
returns-in-Err-clause-no_sink c = memory_sink c.in-Err.fault c.in-Err.ensures.fault

pub returns-in-Err-clause-told : goal.returns-in-Err-clause-told
returns-in-Err-clause-told c = λ image names st listed sighted told. memory_untold c.in-Err.fault _ c.in-Err.ensures.fault told
