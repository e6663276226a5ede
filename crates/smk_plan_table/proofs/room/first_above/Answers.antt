use Rattle.std.proofs.Common.{◌∙◌, sym, ap}
use Rattle.smk_world.specs.Trees.{first}
use Rattle.smk_plan_table.specs.Parts.{shown, above_in, all_above}
use Rattle.smk_plan_table.proofs.Lists.{found_lent, not_lent}
use Rattle.smk_plan_table.proofs.room.first_above.Goals as goal

pub returns-in-Some : goal.returns-in-Some
returns-in-Some c =
    found_lent (above_in c.args.bounds.now) c.args.jobs.now c.loop-job.job-index c.job-item.result c.loop-job-test.true c.job-item.is
    (first (all_above c.args.bounds.now (shown c.args.jobs.now))) c.loop-job.invariant c.in-Some.fault (sym c.in-Some.is ∙ c.in_ok-fault.ensures ∙ ap (λ bs. first (above_in bs c.job-item.result.now)) c.as_slice.ensures)

pub loop-job-preserved : goal.loop-job-preserved
loop-job-preserved c =
    not_lent (above_in c.args.bounds.now) c.args.jobs.now c.loop-job.job-index c.job-item.result c.loop-job-test.true c.job-item.is
    (first (all_above c.args.bounds.now (shown c.args.jobs.now))) c.loop-job.invariant (sym c.in-None.is ∙ c.in_ok-fault.ensures ∙ ap (λ bs. first (above_in bs c.job-item.result.now)) c.as_slice.ensures)
