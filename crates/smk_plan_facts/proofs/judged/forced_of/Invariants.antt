use Rattle.std.proofs.Common.{◌≡◌, map, take}
use Rattle.smk_trigger.specs.declared.facts.JobFacts.{JobFacts}
use Rattle.smk_plan_facts.proofs.judged.forced_of.Given as goal

abbrev pub invariant-loop-one : goal.invariant-loop-one
invariant-loop-one l = l.found ≡ map (λ (f : JobFacts). f.forced) (take l.one-index l.facts)
