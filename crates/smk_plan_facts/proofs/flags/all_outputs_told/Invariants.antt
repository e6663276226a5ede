use Rattle.std.proofs.Common.{◌≡◌, map, take}
use Rattle.smk_plan_facts.specs.Telling.{outputs_in}
use Rattle.smk_plan_facts.proofs.flags.all_outputs_told.Given as goal

abbrev pub invariant-loop-job : goal.invariant-loop-job
invariant-loop-job g l = l.flags.items ≡ map (outputs_in (g.T.Told.known l.told) (g.T.Told.seen l.told)) (take l.job-index l.jobs)
