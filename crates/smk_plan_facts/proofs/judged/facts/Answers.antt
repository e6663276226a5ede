use Rattle.std.proofs.Common.{sym, subst}
use Rattle.std.specs.List.{AllZip}
use Rattle.smk_plan_facts.specs.Facts.{AreFactsOf}
use Rattle.smk_plan_facts.proofs.Entries.{if_both}
use Rattle.smk_plan_facts.proofs.FactsTold.{facts_are}
use Rattle.smk_plan_facts.proofs.judged.facts.Goals as goal

pub returns : goal.returns
returns c =
    if_both c.facts_told.result _ _ _ (λ found e texts. λ image plan is seen summed own sources.
    subst (AllZip (AreFactsOf image c.args.settings.now c.args.ran.now plan) c.args.jobs.now.jobs) (sym e)
    (facts_are image c.args.store.now c.args.seen.now c.args.jobs.now c.args.settings.now c.args.ran.now plan is seen summed own sources texts))
    c.facts_told.ensures.value c.facts_told.ensures.texts
