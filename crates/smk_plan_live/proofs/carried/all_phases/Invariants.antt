use Rattle.std.proofs.Common.{◌≡◌, map, take}
use Rattle.smk_plan_live.specs.Carried.{phase_from}
use Rattle.smk_plan_live.proofs.carried.all_phases.Given as goal

abbrev pub invariant-loop-job : goal.invariant-loop-job
invariant-loop-job l = l.found.items ≡ map (phase_from l.base) (take l.job-index l.jobs)
