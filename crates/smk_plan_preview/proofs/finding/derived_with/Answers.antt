use Rattle.std.proofs.lemmas.Result.{IfOk-weaker}
use Rattle.smk_plan_preview.proofs.DerivedJobs.{chain_quiet, chain_lists, chain_fit, chain_told}
use Rattle.smk_plan_preview.proofs.finding.derived_with.Goals as goal

pub returns-clause-no_device : goal.returns-clause-no_device
returns-clause-no_device c = chain_quiet c.ready_jobs-made.result c.of_derived.result c.of_derived.ensures.is

pub returns-clause-lists : goal.returns-clause-lists
returns-clause-lists c = chain_lists c.args.lists c.ready_jobs-made.result c.of_derived.result c.of_derived.ensures.is (IfOk-weaker c.ready_jobs-made.result _ _ (λ made d. d.lists) c.ready_jobs-made.ensures.derived)

pub returns-clause-fit : goal.returns-clause-fit
returns-clause-fit c =
    let e = c.ready_jobs-made.ensures in
    chain_fit c.args.flow.now c.args.targets.now c.args.lists c.args.sources.now c.ready_jobs-made.result c.of_derived.result c.of_derived.ensures.is e.runnable
    (IfOk-weaker c.ready_jobs-made.result _ _ (λ made d. d.called) e.derived) (IfOk-weaker c.ready_jobs-made.result _ _ (λ made d. d.links) e.derived)

pub returns-clause-told : goal.returns-clause-told
returns-clause-told c =
    let e = c.ready_jobs-made.ensures in
    chain_told c.args.flow.now c.args.targets.now c.args.lists c.args.sources.now c.args.store.now c.ready_jobs-made.result c.of_derived.result c.of_derived.ensures.is (IfOk-weaker c.ready_jobs-made.result _ _ (λ made d. d.none) e.derived) (IfOk-weaker c.ready_jobs-made.result _ _ (λ made d. d.called) e.derived)
    (IfOk-weaker c.ready_jobs-made.result _ _ (λ made d. d.links) e.derived) e.fault
