use Rattle.std.proofs.Common.{ap, ◌∙◌, Bool}
use Rattle.std.specs.BTreeSet.{contains_text}
use Rattle.smk_flow.specs.declared.job.Job.{Job}
use Rattle.std.proofs.lemmas.Result.{IfOk-weaker}
use Rattle.smk_plan_facts.specs.Telling.{facts_in}
use Rattle.smk_plan_facts.proofs.judged.job_facts.Goals as goal

pub returns : goal.returns
returns g c =
    IfOk-weaker c.own_facts.result _ _ (
    λ found e. e
    ∙ ap (λ (b : Bool). facts_in (g.T.Told.known c.args.told.now) (g.T.Told.seen c.args.told.now) (contains_text c.args.sources.now) (λ (k : Job). b) c.args.job.now) c.is_forced.ensures
    ) c.own_facts.ensures
