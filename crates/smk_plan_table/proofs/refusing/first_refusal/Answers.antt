use Rattle.std.proofs.Common.{◌∙◌, ap, sym}
use Rattle.smk_world.specs.Trees.{first}
use Rattle.smk_plan_table.specs.Parts.{shown, refusals_in}
use Rattle.smk_plan_table.proofs.Doubted.{none_refused}
use Rattle.smk_plan_table.proofs.refusing.first_refusal.Goals as goal

pub returns-then-not-is_doubted : goal.returns-then-not-is_doubted
returns-then-not-is_doubted g c = λ of.
    none_refused (g.T.Told.known c.args.told.now) (g.T.Told.seen c.args.told.now) c.args.settings.now c.args.jobs.now c.args.suspects.now of
    c.args.running.now c.args.ranks.now c.args.begun.now (sym c.may_be_refused-is_doubted.ensures ∙ c.if-not-is_doubted.true)

pub returns : goal.returns
returns g c = λ of.
    let idle = ap shown c.as_slice.ensures.value ∙ c.in_ok-idle.ensures in
    let front = ap shown c.as_slice-2.ensures.value ∙ c.in_ok-front.ensures in
    c.in_ok-found.ensures
    ∙ (λ i. first (refusals_in (g.T.Told.known c.args.told.now) (g.T.Told.seen c.args.told.now) c.args.settings.now (idle i) (front i)))
