use Rattle.std.proofs.Common.{◌∙◌}
use Rattle.std.proofs.lemmas.Result.{IfOk-weaker}
use Rattle.smk_plan_facts.proofs.WholesTold.{sorted_all, wholes_are}
use Rattle.smk_plan_facts.proofs.whole.wholes.Goals as goal

pub returns : goal.returns
returns c =
    IfOk-weaker c.wholes_told.result _ _ (λ found told. λ image is seen all own makes.
    told (sorted_all image c.args.store.now c.args.seen.now c.args.jobs.now is seen own)
    ∙ wholes_are image c.args.store.now c.args.seen.now c.args.jobs.now is seen all own makes) c.wholes_told.ensures
