use Rattle.std.proofs.Common.{take}
use Rattle.std.specs.List.{flat_map}
use Rattle.smk_plan_look.specs.Gathering.{HasAdded, job_paths}
use Rattle.smk_plan_look.proofs.paths.add_jobs.Given as goal

abbrev pub invariant-loop-job : goal.invariant-loop-job
invariant-loop-job l = HasAdded l.fn.paths l.paths (flat_map job_paths (take l.job-index l.jobs))
