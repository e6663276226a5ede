-- Rules made of parts have these parts.
use Rattle.std.proofs.Common.{◌≡◌, List, [], ◌∷◌, map, refl, sym, ap, subst, ◌∙◌}
use Rattle.smk_flow.specs.declared.rule.RulePart.{RulePart}
use Rattle.smk_flow.specs.declared.rule.Clause.{Clause}
use Rattle.smk_flow.specs.declared.workflow.Rule.{Rule}
use Rattle.smk_flow.specs.Checks.{IsWorkflow}
use Rattle.smk_flow.specs.Numbers.{parts_of}
use Rattle.smk_flow.specs.PatternsOf.{rule_of, IsChecked}
use Rattle.smk_flow.specs.Targets.{default_rule}

pub parts_are : (parts : List RulePart) → map (λ r. r.part) (map rule_of parts) ≡ parts
parts_are [] = refl
parts_are (p ∷ ps) = ap (λ rest. p ∷ rest) (parts_are ps)

-- the rules of a checked workflow are those of their parts
pub are_rules : (rules : List Rule) (orders : List Clause) → IsChecked rules orders → rules ≡ map rule_of (map (λ r. r.part) rules)
are_rules rules orders checked =
    checked.are ∙ ap (map rule_of) (sym (ap (map (λ (r : Rule). r.part)) checked.are ∙ parts_are checked.parts))

pub is_workflow : (rules : List Rule) (orders : List Clause) → IsChecked rules orders → IsWorkflow (map (λ r. r.part) rules) orders
is_workflow rules orders checked =
    subst (λ (ps : List RulePart). IsWorkflow ps orders) (sym (ap (map (λ (r : Rule). r.part)) checked.are ∙ parts_are checked.parts)) checked.passes

pub default_same : (parts : List RulePart) (rules : List Rule) → rules ≡ map rule_of parts → default_rule (parts_of rules) ≡ default_rule parts
default_same parts rules are = ap default_rule (ap parts_of are ∙ parts_are parts)
