use Rattle.std.proofs.Common.{◌≡◌, [], map, take, drop}
use Rattle.smk_pattern.specs.Shapes.{Text}
use Rattle.smk_flow.specs.declared.fault.FlowFault.{FlowFault}
use Rattle.smk_flow.specs.Named.{rule_at}
use Rattle.smk_flow.specs.PatternsOf.{patterns_of}
use Rattle.smk_flow.specs.Checks.{rule_in, AllPass, OneFails}
use Rattle.smk_flow_build.proofs.checks.check_rules.Given as goal

abbrev pub invariant-loop-part : goal.invariant-loop-part
invariant-loop-part l = record {
  look : (q : Text) → rule_at l.rules q ≡ rule_in (take l.part-index l.parts) q;
  patterns : l.patterns ≡ map patterns_of (take l.part-index l.parts);
  pass : AllPass (take l.part-index l.parts) (drop l.part-index l.parts) → AllPass [] l.parts;
  fail : (f : FlowFault) → OneFails (take l.part-index l.parts) (drop l.part-index l.parts) f → OneFails [] l.parts f;
}
