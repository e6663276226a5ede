use Rattle.std.proofs.Common.{subst, sym}
use Rattle.std.proofs.lemmas.Result.{IfOk-weaker}
use Rattle.smk_plan.specs.Duties.{AreFor, AreServable}
use Rattle.smk_plan_duties.specs.Meaning.{AreMeant}
use Rattle.smk_plan_duties.proofs.Meant.{chosen_meant}
use Rattle.smk_plan_duties.proofs.Served.{chosen_for, chosen_servable}
use Rattle.smk_plan_duties.proofs.choosing.duties_of.Goals as goal

pub returns-clause-servable : goal.returns-clause-servable
returns-clause-servable c =
    IfOk-weaker c.told_duties.result _ _ (λ duties told.
    subst (AreServable c.args.first c.args.jobs.now) (sym told)
    (chosen_servable c.args.first c.args.jobs.now c.args.store.now c.args.states.now c.requires.positive c.requires.lengths)) c.told_duties.ensures

pub returns-clause-states : goal.returns-clause-states
returns-clause-states c =
    IfOk-weaker c.told_duties.result _ _ (λ duties told.
    subst (AreFor c.args.states.now) (sym told)
    (chosen_for c.args.first c.args.jobs.now.makers c.args.store.now c.args.jobs.now.jobs c.args.states.now c.requires.lengths)) c.told_duties.ensures

pub returns-clause-told : goal.returns-clause-told
returns-clause-told c =
    IfOk-weaker c.told_duties.result _ _ (λ duties told. λ image settings ran asked is next planned.
    subst (AreMeant image c.args.jobs.now.jobs c.args.states.now) (sym told)
    (chosen_meant image settings ran c.args.jobs.now asked c.args.states.now planned c.args.store.now is c.args.first next)) c.told_duties.ensures
