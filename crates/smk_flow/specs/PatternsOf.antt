-- The patterns of a rule, and what a checked workflow holds.
use Rattle.std.specs.Prelude.{◌≡◌, List, [], map}
use Rattle.smk_pattern.specs.Reading.{shape_of}
use Rattle.smk_flow.specs.declared.rule.RulePart.{RulePart}
use Rattle.smk_flow.specs.declared.rule.Clause.{Clause}
use Rattle.smk_flow.specs.declared.workflow.Patterns.{Patterns}
use Rattle.smk_flow.specs.declared.workflow.Rule.{Rule}
use Rattle.smk_flow.specs.Checks.{out_texts, IsWorkflow}

-- those of its outputs and of its logs
abbrev pub patterns_of : RulePart → Patterns
patterns_of part = record { outputs = map (shape_of part.limits) (out_texts part); logs = map (shape_of []) part.logs }

-- the rule with its patterns
abbrev pub rule_of : RulePart → Rule
rule_of part = record { part = part; outputs = (patterns_of part).outputs; logs = (patterns_of part).logs }

-- The rules and the clauses make a workflow, and each rule has its patterns.
pub record IsChecked (rules : List Rule) (orders : List Clause) : Type 0 where
  pub parts : List RulePart
  pub are : rules ≡ map rule_of parts
  pub passes : IsWorkflow parts orders
