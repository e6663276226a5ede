use Rattle.std.proofs.Common.{◌≡◌, map, take}
use Rattle.smk_plan_live.specs.Carried.{sights_from}
use Rattle.smk_plan_live.proofs.carried.all_sights.Given as goal

abbrev pub invariant-loop-job : goal.invariant-loop-job
invariant-loop-job l = l.found.items ≡ map (sights_from l.base) (take l.job-index l.jobs)
