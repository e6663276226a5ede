use Rattle.std.proofs.lemmas.Result.{IfOk-weaker, IfErr-weaker}
use Rattle.smk_plan_facts.specs.Facts.{having_run}
use Rattle.smk_plan_table.proofs.planning.plan.Goals as goal

pub plan_of-requires : goal.plan_of-requires
plan_of-requires g c = record { table = c.in-Ok.ensures.table }

pub returns-in-Ok-clause-made : goal.returns-in-Ok-clause-made
returns-in-Ok-clause-made g c =
    IfOk-weaker c.plan_of.result _ _ (λ made told. λ image agree.
    told image (having_run c.args.ran.now) agree
    (record {
      judged = c.in-Ok.ensures.judged image agree;
      wholes = c.in-Ok.ensures.wholes image agree;
      begun = c.in-Ok.ensures.begun;
      doubted = c.in-Ok.ensures.suspects;
    })) c.plan_of.ensures.made

pub returns-in-Ok-clause-refused : goal.returns-in-Ok-clause-refused
returns-in-Ok-clause-refused g c =
    IfErr-weaker c.plan_of.result _ _ (λ fault told. λ real image agree.
    told real image (having_run c.args.ran.now) agree
    (record {
      judged = c.in-Ok.ensures.judged image agree;
      wholes = c.in-Ok.ensures.wholes image agree;
      begun = c.in-Ok.ensures.begun;
      doubted = c.in-Ok.ensures.suspects;
    })) c.plan_of.ensures.refused
