use Rattle.std.proofs.Common.{◌≡◌, map, take}
use Rattle.smk_plan_facts.specs.Telling.{directories_of}
use Rattle.smk_plan_facts.proofs.flags.all_directories.Given as goal

abbrev pub invariant-loop-job : goal.invariant-loop-job
invariant-loop-job g l = l.found ≡ map (directories_of (g.T.Told.known l.told) (g.T.Told.seen l.told)) (take l.job-index l.jobs)
