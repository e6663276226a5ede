use Rattle.std.proofs.Common.{◌&&◌, ◌+◌, drop, ap, ◌∙◌}
use Rattle.std.proofs.lemmas.List.{drop_all}
use Rattle.std.specs.List.{list_all}
use Rattle.smk_store.proofs.Seeing.{dropped}
use Rattle.smk_plan_live.specs.Commands.{has_command}
use Rattle.smk_plan_live.proofs.commands.have_commands.Goals as goal

pub loop-job-preserved : goal.loop-job-preserved
loop-job-preserved c =
    let jobs = c.args.jobs.now in
    let i = c.loop-job.job-index in
    c.loop-job.invariant ∙ ap (list_all (has_command c.args.cores)) (dropped jobs i c.job-item.result c.loop-job-test.true c.job-item.is)
    ∙ ap (λ b. b && list_all (has_command c.args.cores) (drop (i + 1) jobs)) (c.has_command.ensures c.if-not-has_command.false)

pub returns : goal.returns
returns c = λ h. c.loop-job.invariant ∙ ap (list_all (has_command c.args.cores)) (drop_all c.loop-job.job-index c.args.jobs.now c.loop-job-test.false)
