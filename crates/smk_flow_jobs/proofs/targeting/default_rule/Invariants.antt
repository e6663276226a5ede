use Rattle.std.proofs.Common.{◌≡◌, drop, filter}
use Rattle.smk_flow.specs.declared.rule.RulePart.{RulePart}
use Rattle.smk_flow.specs.Numbers.{parts_of}
use Rattle.smk_flow_jobs.proofs.targeting.default_rule.Given as goal

abbrev pub invariant-loop-rule : goal.invariant-loop-rule
invariant-loop-rule l =
    filter (λ (r : RulePart). r.default_target) (parts_of l.rules) ≡ filter (λ (r : RulePart). r.default_target) (parts_of (drop l.rule-index l.rules))
