use Rattle.std.proofs.Common.{◌≡◌, drop}
use Rattle.std.specs.List.{list_any}
use Rattle.smk_plan_live.specs.Limits.{has_temps}
use Rattle.smk_plan_live.proofs.limits.any_temporary.Given as goal

abbrev pub invariant-loop-job : goal.invariant-loop-job
invariant-loop-job l = list_any has_temps l.jobs ≡ list_any has_temps (drop l.job-index l.jobs)
