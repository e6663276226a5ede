use Rattle.std.proofs.Common.{map, ap, subst, ◌∙◌}
use Rattle.smk_flow.specs.Flows.{Flow}
use Rattle.smk_flow.specs.Checks.{IsWorkflow}
use Rattle.smk_flow.specs.PatternsOf.{rule_of}
use Rattle.smk_flow.proofs.Ruled.{are_rules, is_workflow}
use Rattle.smk_flow.proofs.workflow.Workflow.rules.Goals as goal

pub returns-clause-rules : goal.returns-clause-rules
returns-clause-rules c =
    let inside = c.self.inside in
    are_rules inside.rules inside.orders c.self.invariant.0 ∙ ap (λ (flow : Flow). map rule_of flow.rules) c.self.view_is

pub returns-clause-checked : goal.returns-clause-checked
returns-clause-checked c =
    let inside = c.self.inside in
    subst (λ (flow : Flow). IsWorkflow flow.rules flow.orders) c.self.view_is (is_workflow inside.rules inside.orders c.self.invariant.0)
