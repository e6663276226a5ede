use Rattle.std.proofs.Common.{◌∙◌, ◌++◌, ◌∷◌, [], List, ap, length, get_or, arith}
use Rattle.std.proofs.lemmas.List.{length-map}
use Rattle.smk_flow.specs.declared.workflow.Rule.{Rule}
use Rattle.smk_flow.specs.PatternsOf.{rule_of}
use Rattle.smk_choose.specs.declared.readings.Reading.{Reading}
use Rattle.smk_choose.proofs.Listed.{readings_step}
use Rattle.smk_choose.proofs.readings.readings.Goals as goal

pub loop-rule-preserved : goal.loop-rule-preserved
loop-rule-preserved c =
    let rules = c.args.flow.now.rules in
    let same = c.as_slice-rule-items.ensures ∙ c.rules.ensures.rules in
    readings_step c.args.flow.now rules c.loop-rule.rule-index c.rule-item.result c.loop-rule.made.items c.push.new.self.items
    (omega (arith, c.loop-rule-test.true, ap length same, length-map rules rule_of))
    (c.rule-item.is ∙ ap (λ (rs : List Rule). get_or rs c.loop-rule.rule-index c.rule-item.result) same)
    c.loop-rule.invariant
    (c.in_ok-push.ensures.items ∙ ap (λ (r : Reading). c.loop-rule.made.items ++ r ∷ []) c.in_ok-reading_of.ensures)
