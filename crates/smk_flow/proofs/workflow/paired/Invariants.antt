use Rattle.std.proofs.Common.{◌≡◌, ◌++◌, length, map}
use Rattle.std.specs.Prelude.{reverse}
use Rattle.smk_flow.specs.PatternsOf.{patterns_of, rule_of}
use Rattle.smk_flow.proofs.workflow.paired.Given as goal

abbrev pub invariant-parts : goal.invariant-parts
invariant-parts l = record {
  same : l.patterns ≡ map patterns_of l.parts;
  rules : map rule_of l.parts ++ reverse l.rules ≡ map rule_of l.fn.parts;
}

abbrev pub decreases-parts : goal.decreases-parts
decreases-parts l = length l.parts
