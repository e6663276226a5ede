use Rattle.std.proofs.Common.{◌∙◌, sym}
use Rattle.smk_world.specs.Trees.{first}
use Rattle.smk_plan_table.specs.Parts.{above_of, above_in}
use Rattle.smk_plan_table.proofs.Lists.{found_here, not_here}
use Rattle.smk_plan_table.proofs.room.first_of_job.Goals as goal

pub returns-in-Some : goal.returns-in-Some
returns-in-Some c =
    found_here (above_of c.args.job.now) c.args.bounds.now c.loop-bound.bound-index c.bound-item.result c.loop-bound-test.true c.bound-item.is
    (first (above_in c.args.bounds.now c.args.job.now)) c.loop-bound.invariant c.in-Some.fault (sym c.in-Some.is ∙ c.in_ok-fault.ensures)

pub loop-bound-preserved : goal.loop-bound-preserved
loop-bound-preserved c =
    not_here (above_of c.args.job.now) c.args.bounds.now c.loop-bound.bound-index c.bound-item.result c.loop-bound-test.true c.bound-item.is
    (first (above_in c.args.bounds.now c.args.job.now)) c.loop-bound.invariant (sym c.in-None.is ∙ c.in_ok-fault.ensures)
