use Rattle.std.proofs.Common.{◌≡◌, map, take}
use Rattle.smk_plan_facts.specs.Telling.{outputs_in}
use Rattle.smk_plan_facts.proofs.whole.outputs_whole.Given as goal

abbrev pub invariant-loop-job : goal.invariant-loop-job
invariant-loop-job g l = l.flags ≡ map (outputs_in (g.T.Told.known l.told) (g.T.Told.seen l.told)) (take l.job-index l.jobs)
