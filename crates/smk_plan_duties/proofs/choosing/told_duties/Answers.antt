use Rattle.std.proofs.Common.{ap, ap₂, ◌∙◌, []}
use Rattle.std.proofs.lemmas.Result.{IfOk-weaker}
use Rattle.smk_plan_duties.specs.Choosing.{duties_in, Able}
use Rattle.smk_plan_duties.specs.Numbers.{is_able_by}
use Rattle.smk_plan.specs.Duties.{maker_in}
use Rattle.smk_plan_duties.proofs.Able.{same_able}
use Rattle.smk_plan_duties.proofs.choosing.told_duties.Goals as goal

pub returns : goal.returns
returns c =
    let first = c.args.first in
    let store = c.args.store.now in
    IfOk-weaker c.all_duties.result _ _ (
    λ duties told.
    told
    ∙ ap₂ (duties_in first (is_able_by first c.in_ok-numbers.numbers) store []) c.as_slice-2.ensures c.as_slice-3.ensures
    ∙ ap (λ (able : Able). duties_in first able store [] c.args.jobs.now.jobs c.args.states.now)
    (same_able first c.args.jobs.now.makers c.in_ok-numbers.numbers (λ q. c.in_ok-numbers.ensures q ∙ ap (λ ms. maker_in ms q) c.as_slice.ensures))
    ) c.all_duties.ensures
