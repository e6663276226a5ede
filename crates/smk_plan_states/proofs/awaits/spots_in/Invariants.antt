use Rattle.std.proofs.Common.{◌≡◌, take}
use Rattle.std.specs.List.{flat_map}
use Rattle.smk_chain.specs.declared.jobs.Jobs.{Jobs}
use Rattle.smk_plan_states.specs.Lines.{job_spots}
use Rattle.smk_plan_states.specs.Ways.{AreWays}
use Rattle.smk_plan_states.proofs.awaits.spots_in.Given as goal

abbrev pub invariant-loop-job : goal.invariant-loop-job
invariant-loop-job l = (J : Jobs) → AreWays J l.ways → l.found ≡ flat_map (job_spots J) (take l.job-index l.jobs)
