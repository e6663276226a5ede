use Rattle.std.proofs.Common.{◌≡◌, drop}
use Rattle.std.specs.List.{list_all}
use Rattle.smk_plan_live.specs.Limits.{asks_at_least}
use Rattle.smk_plan_live.proofs.limits.ask_at_least.Given as goal

abbrev pub invariant-loop-job : goal.invariant-loop-job
invariant-loop-job l = list_all (asks_at_least l.least) l.jobs ≡ list_all (asks_at_least l.least) (drop l.job-index l.jobs)
