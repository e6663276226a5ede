use Rattle.std.proofs.Common.{◌≡◌, drop}
use Rattle.std.specs.List.{list_all}
use Rattle.smk_plan_live.specs.Limits.{is_within}
use Rattle.smk_plan_live.proofs.limits.are_within.Given as goal

abbrev pub invariant-loop-job : goal.invariant-loop-job
invariant-loop-job l = list_all (is_within l.top) l.jobs ≡ list_all (is_within l.top) (drop l.job-index l.jobs)
