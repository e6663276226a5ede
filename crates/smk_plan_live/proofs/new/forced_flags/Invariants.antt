use Rattle.std.proofs.Common.{◌≡◌, map, take}
use Rattle.smk_trigger.specs.declared.facts.JobFacts.{JobFacts}
use Rattle.smk_plan_live.proofs.new.forced_flags.Given as goal

abbrev pub invariant-loop-one : goal.invariant-loop-one
invariant-loop-one l = l.found.items ≡ map (λ (f : JobFacts). f.forced) (take l.one-index l.facts)
