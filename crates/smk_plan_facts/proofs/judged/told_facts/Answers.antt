use Rattle.std.proofs.Common.{ap, ◌∙◌, map}
use Rattle.std.specs.BTreeSet.{contains_text}
use Rattle.smk_world.specs.Trees.{among}
use Rattle.std.proofs.lemmas.Result.{IfOk-weaker}
use Rattle.smk_plan_facts.specs.Facts.{told_sources}
use Rattle.smk_plan_facts.specs.Telling.{facts_in, forced_by, forced_in}
use Rattle.smk_plan_facts.proofs.FactsTold.{forced_is, same_facts}
use Rattle.smk_plan_facts.proofs.judged.told_facts.Goals as goal

pub returns : goal.returns
returns g c =
    let store = g.T.Told.known c.args.told.now in
    let sights = g.T.Told.seen c.args.told.now in
    IfOk-weaker c.all_facts.result _ _ (
    λ found e. e
    ∙ ap (map (facts_in store sights (contains_text c.in_ok-sources.sources) (forced_in c.in_ok-forcing.forcing))) c.as_slice-2.ensures
    ∙ same_facts store sights (contains_text c.in_ok-sources.sources) (among (told_sources c.args.jobs.now.makers)) (forced_in c.in_ok-forcing.forcing) (forced_by c.args.settings.now c.args.ran.now)
    (λ q. c.in_ok-sources.ensures q ∙ ap (λ ms. among (told_sources ms) q) c.as_slice.ensures)
    (forced_is c.args.settings.now c.args.ran.now c.in_ok-forcing.forcing c.in_ok-forcing.ensures) c.args.jobs.now.jobs
    ) c.all_facts.ensures
