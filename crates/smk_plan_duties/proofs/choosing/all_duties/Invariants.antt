use Rattle.std.proofs.Common.{◌≡◌, [], drop}
use Rattle.smk_plan_duties.specs.Choosing.{duties_in}
use Rattle.smk_plan_duties.specs.Numbers.{is_able_by}
use Rattle.smk_plan_duties.proofs.choosing.all_duties.Given as goal

abbrev pub invariant-loop-job : goal.invariant-loop-job
invariant-loop-job l =
    duties_in l.first (is_able_by l.first l.numbers) l.store l.duties (drop l.job-index l.jobs) l.rest
    ≡ duties_in l.first (is_able_by l.first l.numbers) l.store [] l.jobs l.states
