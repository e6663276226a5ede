use Rattle.std.proofs.lemmas.Result.{IfOk-weaker}
use Rattle.smk_choose.specs.Told.{told_by}
use Rattle.smk_chain_derive.proofs.Runnable.{all_ready}
use Rattle.smk_chain_derive.proofs.readying.ready_jobs.Goals as goal

pub returns-clause-runnable : goal.returns-clause-runnable
returns-clause-runnable c =
    let derived = c.derive.ensures.derived in
    all_ready c.args.flow.now (told_by c.args.sources.now) c.args.lists c.args.targets.now c.args.store.now c.derive.result
    (IfOk-weaker c.derive.result _ _ (λ made d. d.called) derived) (IfOk-weaker c.derive.result _ _ (λ made d. d.links) derived) (IfOk-weaker c.derive.result _ _ (λ made d. d.apart) derived)
