use Rattle.std.proofs.Common.{List, Bor, Option, Some, option_map, ℕ, ap, sym, ◌∙◌}
use Rattle.smk_flow.specs.declared.rule.RulePart.{RulePart}
use Rattle.smk_flow.specs.declared.workflow.Rule.{Rule}
use Rattle.smk_flow.proofs.Ruled.{default_same}
use Rattle.smk_flow_jobs.proofs.targeting.default_name.Goals as goal

pub returns-in-Some : goal.returns-in-Some
returns-in-Some c =
    ap (λ (n : List ℕ). Some n) c.as_str.ensures
    ∙ ap (λ (o : Option RulePart). option_map (λ (r : RulePart). r.name) o)
    (ap (λ (o : Option (Bor Rule)). option_map (λ (r : Bor Rule). r.now.part) o) (sym c.in-Some.is) ∙ c.default_rule.ensures
    ∙ default_same c.args.flow.now.rules c.as_slice.result.now (c.as_slice.ensures ∙ c.rules.ensures.rules))

pub returns-in-None : goal.returns-in-None
returns-in-None c =
    ap (λ (o : Option RulePart). option_map (λ (r : RulePart). r.name) o)
    (ap (λ (o : Option (Bor Rule)). option_map (λ (r : Bor Rule). r.now.part) o) (sym c.in-None.is) ∙ c.default_rule.ensures
    ∙ default_same c.args.flow.now.rules c.as_slice.result.now (c.as_slice.ensures ∙ c.rules.ensures.rules))
