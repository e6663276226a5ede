use Rattle.std.proofs.Common.{◌≡◌, take, map}
use Rattle.smk_plan_states.specs.Ways.{folders_placed}
use Rattle.smk_plan_states.proofs.folders.all_folders.Given as goal

abbrev pub invariant-loop-job : goal.invariant-loop-job
invariant-loop-job l = l.found ≡ map folders_placed (take l.job-index l.jobs)
