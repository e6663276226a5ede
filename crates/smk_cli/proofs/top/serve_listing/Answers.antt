use Rattle.smk_world.proofs.Devices.{looked_then}
use Rattle.smk_cli_calls.specs.Serving.{IsRefusedPlan, IsServed}
use Rattle.smk_cli_calls.proofs.Ended.{early, later_on}
use Rattle.smk_cli_calls.proofs.Went.{refused_or_stopped_listing, listed_wider}
use Rattle.smk_plan_preview.proofs.LookedAt.{kept}
use Rattle.smk_cli_calls.specs.Whole.{IsRefusal, IsToServe, OfWorkflow}
use Rattle.smk_cli.proofs.ServingOf.{plan_refused, plan_served}
use Rattle.smk_cli.proofs.top.serve_listing.Goals as goal

pub returns-in-Err-clause-ended : goal.returns-in-Err-clause-ended
returns-in-Err-clause-ended g c = early c.in-Err.fault _ c.in-Err.ensures.looked c.requires.none_runs c.in-Err.ensures.no_sink

pub returns-in-Err-clause-looked : goal.returns-in-Err-clause-looked
returns-in-Err-clause-looked g c = c.in-Err.ensures.looked

pub returns-in-Err-clause-listed : goal.returns-in-Err-clause-listed
returns-in-Err-clause-listed g c = λ w at read reads.
    let words = c.args.words.now in
    refused_or_stopped_listing (IsRefusal read words w w) (IsToServe read words w w) c.in-Err.fault _ c.in-Err.ensures.no_sink
    (λ told. OfWorkflow (c.in-Err.ensures.told w at told))

pub returns-in-Ok-clause-ended : goal.returns-in-Ok-clause-ended
returns-in-Ok-clause-ended g c = later_on g.W.Files.act c.list_plan.result _ _ _ _ _ c.in-Ok.ensures.looked c.list_plan.ensures.ended

pub returns-in-Ok-clause-looked : goal.returns-in-Ok-clause-looked
returns-in-Ok-clause-looked g c = looked_then c.in-Ok.ensures.looked c.list_plan.ensures.looked

pub returns-in-Ok-clause-listed : goal.returns-in-Ok-clause-listed
returns-in-Ok-clause-listed g c = λ w at read reads.
    let words = c.args.words.now in
    let v = kept w c.in-Ok.ensures.looked at in
    let asked = c.in-Ok.asked in
    let is_asked = c.in-Ok.ensures.told w at in
    listed_wider c.list_plan.result (IsRefusal read words w w) (IsRefusedPlan read asked words v.0) (IsToServe read words w w)
    (IsServed read asked words v.0) _ _
    (λ f refused. plan_refused read words w v.0 asked f v.2 is_asked refused)
    (λ served told h. plan_served read words w v.0 asked served told v.2 is_asked h)
    (c.list_plan.ensures.listed v.0 v.1 read reads)
