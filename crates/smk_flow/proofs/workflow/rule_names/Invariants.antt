use Rattle.std.proofs.Common.{◌≡◌, map, take, drop, string_bytes}
use Rattle.smk_flow.specs.Checks.{AllPass}
use Rattle.smk_flow.specs.Numbers.{parts_of, rule_names}
use Rattle.smk_flow.proofs.workflow.rule_names.Given as goal

abbrev pub invariant-loop-rule : goal.invariant-loop-rule
invariant-loop-rule l = record {
  are : map string_bytes l.names.keys ≡ rule_names (take l.rule-index l.rules);
  pass : AllPass (parts_of (take l.rule-index l.rules)) (parts_of (drop l.rule-index l.rules));
}
