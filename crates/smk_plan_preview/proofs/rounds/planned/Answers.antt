use Rattle.std.proofs.Common.{subst}
use Rattle.smk_plan_table.specs.Plans.{IsRefused}
use Rattle.smk_plan_preview.proofs.Chains.{plan_refused}
use Rattle.smk_plan_preview.proofs.rounds.planned.Goals as goal

pub returns-clause-told : goal.returns-clause-told
returns-clause-told g c = λ image agree told.
    plan_refused c.args.flow.now image c.args.settings.now c.args.jobs.now c.in-Err.fault c.of_plan.result c.of_plan.ensures.is
    (λ memory.
    subst
    (λ ran. IsRefused image c.args.settings.now ran c.args.jobs.now c.in-Err.fault)
    c.new-none.ensures
    (c.in-Err.ensures.refused memory image agree))
    told
