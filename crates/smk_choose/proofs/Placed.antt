-- Where the jobs of a rule write.
use Rattle.std.proofs.Common.{◌≡◌, ℕ, zero, suc, true, false, ◌<◌, ◌≤◌, List, [], ◌∷◌, ◌++◌, map, length, get_or, slice_get, None, refl, sym, ap, ap₂, ◌∙◌, arith}
use Rattle.std.specs.Prelude.{nat_lt}
use Rattle.std.proofs.lemmas.Bool.{ltb-true}
use Rattle.smk_base.specs.declared.tree.Pair.{Pair}
use Rattle.smk_pattern.specs.Shapes.{Text}
use Rattle.smk_flow.specs.declared.rule.RulePart.{RulePart}
use Rattle.smk_flow.specs.declared.workflow.Rule.{Rule}
use Rattle.smk_flow.specs.Flows.{Flow, Candidate}
use Rattle.smk_flow.specs.PatternsOf.{rule_of}
use Rattle.smk_choose.specs.declared.choice.Making.{Making}
use Rattle.smk_choose.specs.Readings.{filled_by}
use Rattle.smk_choose.specs.Finding.{places_in, places_by}
use Rattle.smk_choose.proofs.ByName.{rule_found}
use Rattle.smk_choose.proofs.Listed.{outputs_filled, logs_filled}

abbrev filled_all : List Pair → Rule → List Text
filled_all b rule = map (filled_by b) rule.outputs ++ map (filled_by b) rule.logs

rule_itself : (rules : List RulePart) (n : ℕ) (found : Rule) → n < length rules → found ≡ get_or (map rule_of rules) n found → found ≡ rule_of found.part
rule_itself [] n found lt at = absurd (omega (arith, lt))
rule_itself (r ∷ rules) zero found lt at = at ∙ sym (ap (λ (f : Rule). rule_of f.part) at)
rule_itself (r ∷ rules) (suc n) found lt at = rule_itself rules n found (omega (arith, lt)) at

none_there : (rules : List RulePart) (n : ℕ) → length rules ≤ n → slice_get rules n ≡ None
none_there [] n le = refl
none_there (r ∷ rules) zero le = absurd (omega (arith, le))
none_there (r ∷ rules) (suc n) le = none_there rules n (omega (arith, le))

rules_length : (rules : List RulePart) → length (map rule_of rules) ≡ length rules
rules_length [] = refl
rules_length (r ∷ rules) = ap suc (rules_length rules)

as_many : (flow : Flow) (rules : List Rule) → rules ≡ map rule_of flow.rules → length rules ≡ length flow.rules
as_many flow rules e = ap length e ∙ rules_length flow.rules

pub places_found : (flow : Flow) (m : Making) (rules : List Rule) (found : Rule) → rules ≡ map rule_of flow.rules → true ≡ nat_lt m.rule (length rules) → found ≡ get_or rules m.rule found
    → filled_all m.binding found ≡ places_by flow m
places_found flow m rules found are within at =
    let lt : m.rule < length flow.rules = omega (arith, ltb-true m.rule (length rules) (sym within), as_many flow rules are) in
    let is = at ∙ ap (λ (rs : List Rule). get_or rs m.rule found) are in
    let c : Candidate = record { rule = m.rule; part = found.part; binding = m.binding } in
    ap (filled_all m.binding) (rule_itself flow.rules m.rule found lt is)
    ∙ ap₂ ◌++◌ (outputs_filled flow c) (logs_filled flow c)
    ∙ sym (ap (places_in flow m) (rule_found flow.rules m.rule found lt is))

not_less : (a b : ℕ) → nat_lt a b ≡ false → b ≤ a
not_less a b e = grind arith

pub places_none : (flow : Flow) (m : Making) (rules : List Rule) (found : List Text) → rules ≡ map rule_of flow.rules → false ≡ nat_lt m.rule (length rules) → found ≡ [] → found ≡ places_by flow m
places_none flow m rules found are beyond e =
    let le : length flow.rules ≤ m.rule = omega (arith, not_less m.rule (length rules) (sym beyond), as_many flow rules are) in
    e ∙ sym (ap (places_in flow m) (none_there flow.rules m.rule le))
