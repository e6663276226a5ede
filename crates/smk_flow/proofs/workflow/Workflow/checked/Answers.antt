use Rattle.std.proofs.Common.{◌≡◌, [], List, map, ap, subst, sym, ◌∙◌}
use Rattle.smk_flow.specs.declared.rule.RulePart.{RulePart}
use Rattle.smk_flow.specs.declared.workflow.Rule.{Rule}
use Rattle.smk_flow.specs.Checks.{AllPass}
use Rattle.smk_flow.specs.Numbers.{parts_of}
use Rattle.smk_flow.specs.PatternsOf.{rule_of}
use Rattle.smk_flow.proofs.Ruled.{parts_are}
use Rattle.smk_flow.proofs.workflow.Workflow.checked.Goals as goal

pub rule_names-requires : goal.rule_names-requires
rule_names-requires c =
    let rules = c.as_slice.result.now in
    let are : rules ≡ map rule_of c.args.parts = c.as_slice.ensures ∙ c.in_ok-rules.ensures ∙ c.in_ok-paired.ensures in
    subst (AllPass []) (sym (ap parts_of are ∙ parts_are c.args.parts)) c.requires.workflow.rules_pass

pub returns : goal.returns
returns c =
    let are = c.in_ok-rules.ensures ∙ c.in_ok-paired.ensures in
    ap (λ (rules : List RulePart). record { rules = rules; orders = c.args.orders }) (ap (map (λ (r : Rule). r.part)) are ∙ parts_are c.args.parts)
