use Rattle.std.proofs.Common.{◌≡◌, ◌∙◌, List, Option, option_map, sym, ap, length, get_or, slice_get, arith}
use Rattle.std.proofs.lemmas.List.{length-map}
use Rattle.smk_pattern.specs.Reading.{or_empty}
use Rattle.smk_flow.specs.declared.workflow.Rule.{Rule}
use Rattle.smk_flow.specs.declared.rule.RulePart.{RulePart}
use Rattle.smk_flow.specs.PatternsOf.{rule_of}
use Rattle.smk_flow.specs.Flows.{directory_of}
use Rattle.smk_choose.proofs.ByName.{number_place, number_none, rule_found}
use Rattle.smk_choose.proofs.readings.gathered_from.Goals as goal

pub bounds-as_slice-number : goal.bounds-as_slice-number
bounds-as_slice-number c =
    let place = number_place c.args.flow.now.rules 0 c.in-Some.number c.args.checkpoint.now (sym c.rule.ensures ∙ c.in-Some.is) in
    omega (arith, place.1, place.2, ap length (c.as_slice.ensures ∙ c.rules.ensures.rules), length-map c.args.flow.now.rules rule_of)

pub returns-in-Some : goal.returns-in-Some
returns-in-Some c =
    let rules = c.args.flow.now.rules in
    let place = number_place rules 0 c.in-Some.number c.args.checkpoint.now (sym c.rule.ensures ∙ c.in-Some.is) in
    let found = c.index-as_slice-number in
    let j : place.0 ≡ c.in-Some.number = omega (arith, place.1) in
    let at = rule_found rules c.in-Some.number found.result (omega (arith, place.1, place.2))
    (found.is ∙ ap (λ (rs : List Rule). get_or rs c.in-Some.number found.result) (c.as_slice.ensures ∙ c.rules.ensures.rules)) in
    c.directory.ensures ∙ ap (λ (r : Rule). directory_of r.part) (sym found.is)
    ∙ ap (λ (r : Option RulePart). or_empty (option_map directory_of r)) (sym (place.3 ∙ ap (λ k. slice_get rules k) j ∙ at))

pub returns-in-None : goal.returns-in-None
returns-in-None c = sym (ap (λ (r : Option RulePart). or_empty (option_map directory_of r)) (number_none c.args.flow.now.rules 0 c.args.checkpoint.now (sym c.rule.ensures ∙ c.in-None.is)))
