use Rattle.std.proofs.Common.{◌≡◌, ◌++◌, drop}
use Rattle.smk_plan_live.specs.Phases.{begun_in}
use Rattle.smk_plan_live.proofs.telling.begun_of.Given as goal

abbrev pub invariant-loop-job : goal.invariant-loop-job
invariant-loop-job l = l.found ++ begun_in (drop l.job-index l.jobs) l.rest ≡ begun_in l.jobs l.phases
