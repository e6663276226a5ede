use Rattle.std.proofs.Common.{◌&&◌, ◌+◌, not, drop, ap, ◌∙◌}
use Rattle.std.proofs.lemmas.Bool.{le-ltb}
use Rattle.std.proofs.lemmas.List.{drop_all}
use Rattle.std.specs.List.{list_all}
use Rattle.smk_store.proofs.Seeing.{dropped}
use Rattle.smk_plan_live.specs.Limits.{asks_at_least}
use Rattle.smk_plan_live.proofs.limits.ask_at_least.Goals as goal

pub loop-job-preserved : goal.loop-job-preserved
loop-job-preserved c =
    let jobs = c.args.jobs.now in
    let i = c.loop-job.job-index in
    c.loop-job.invariant ∙ ap (list_all (asks_at_least c.args.least)) (dropped jobs i c.job-item.result c.loop-job-test.true c.job-item.is)
    ∙ ap (λ b. not b && list_all (asks_at_least c.args.least) (drop (i + 1) jobs)) (le-ltb c.job-item.result.threads c.args.least c.if-job-least.false)

pub returns : goal.returns
returns c = λ h. c.loop-job.invariant ∙ ap (list_all (asks_at_least c.args.least)) (drop_all c.loop-job.job-index c.args.jobs.now c.loop-job-test.false)
