use Rattle.std.proofs.Common.{◌≡◌, map, take}
use Rattle.std.specs.BTreeSet.{contains_text}
use Rattle.smk_plan_facts.specs.Telling.{facts_in, forced_in}
use Rattle.smk_plan_facts.proofs.judged.all_facts.Given as goal

abbrev pub invariant-loop-job : goal.invariant-loop-job
invariant-loop-job g l = l.found ≡ map (facts_in (g.T.Told.known l.told) (g.T.Told.seen l.told) (contains_text l.sources) (forced_in l.forcing)) (take l.job-index l.jobs)
