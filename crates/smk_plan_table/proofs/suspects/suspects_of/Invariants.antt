use Rattle.std.proofs.Common.{take}
use Rattle.std.specs.List.{AllZip}
use Rattle.smk_plan_table.specs.Parts.{IsSuspectOf}
use Rattle.smk_plan_table.proofs.suspects.suspects_of.Given as goal

abbrev pub invariant-loop-job : goal.invariant-loop-job
invariant-loop-job g l = AllZip (IsSuspectOf (g.T.Told.known l.told) (g.T.Told.seen l.told) l.bounds) (take l.job-index l.jobs) l.found.items
