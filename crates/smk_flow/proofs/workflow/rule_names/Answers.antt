use Rattle.std.proofs.Common.{◌≡◌, ◌+◌, [], ◌∷◌, ◌++◌, ◌∙◌, List, map, take, drop, ap, sym, subst, string_bytes}
use Rattle.std.proofs.lemmas.List.{at_drop_more, take_more, map_push}
use Rattle.smk_flow.specs.declared.rule.RulePart.{RulePart}
use Rattle.smk_flow.specs.declared.workflow.Rule.{Rule}
use Rattle.smk_flow.specs.Checks.{AllPass}
use Rattle.smk_flow.specs.Numbers.{parts_of, rule_names}
use Rattle.smk_flow.proofs.Numbered.{one_more}
use Rattle.smk_flow.proofs.workflow.rule_names.Goals as goal

pub loop-rule-preserved : goal.loop-rule-preserved
loop-rule-preserved c =
    let rules = c.args.rules.now in
    let i = c.loop-rule.rule-index in
    let rule = c.rule-item.result in
    let inv = c.loop-rule.invariant in
    let e : drop i rules ≡ rule ∷ drop (i + 1) rules =
    at_drop_more (λ (xs : List Rule). xs) rules i rule c.loop-rule-test.true ∙ ap (λ (x : Rule). x ∷ drop (i + 1) rules) (sym c.rule-item.is) in
    let t : take (i + 1) rules ≡ take i rules ++ rule ∷ [] =
    take_more rules i rule c.loop-rule-test.true ∙ ap (λ (x : Rule). take i rules ++ x ∷ []) (sym c.rule-item.is) in
    let passes : AllPass (parts_of (take i rules)) (rule.part ∷ parts_of (drop (i + 1) rules)) =
    subst (λ (xs : List Rule). AllPass (parts_of (take i rules)) (parts_of xs)) e inv.pass in
    let name : string_bytes c.in_ok-name.name ≡ rule.part.name = c.in_ok-name.ensures.ok ∙ c.as_str.ensures in
    record {
      are = ap (map string_bytes) c.in_ok-insert.ensures.keys
          ∙ one_more c.loop-rule.names.keys c.in_ok-name.name (take i rules) rule name inv.are passes.0.name
          ∙ ap rule_names (sym t);
      pass = subst (λ (above : List RulePart). AllPass above (parts_of (drop (i + 1) rules)))
          (sym (ap parts_of t ∙ map_push (λ (r : Rule). r.part) (take i rules) rule)) passes.1;
    }
