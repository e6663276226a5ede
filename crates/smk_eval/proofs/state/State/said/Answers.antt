use Rattle.std.proofs.Common.{◌≡◌, ◌∙◌, not, map, reverse, refl, ap, List}
use Rattle.std.specs.List.{list_any}
use Rattle.smk_flow.specs.declared.rule.RulePart.{RulePart}
use Rattle.smk_eval_rules.specs.Rules.{with_globals}
use Rattle.smk_eval.specs.Statements.{is_default}
use Rattle.smk_eval.specs.Seen.{state_of}
use Rattle.smk_eval.proofs.Marked.{flow_is}
use Rattle.smk_eval.proofs.state.State.said.Goals as goal

pub returns : goal.returns
returns c =
    let s = state_of c.args.self in
    let has = c.has_default-marks.result in
    let has_is : has ≡ list_any is_default s.rules = c.has_default-marks.ensures ∙ ap (λ (ps : List RulePart). list_any is_default ps) (c.as_slice.ensures ∙ c.parts-rules.ensures) in
    let limited : reverse c.in_ok-made.made ≡ map (with_globals s.limits) s.rules = c.in_ok-made.ensures ∙ ap (λ (ps : List RulePart). map (with_globals s.limits) ps) c.parts-rules.ensures in
    flow_is s c.args.file.now c.in_ok-made.made c.in_ok-turned.field-0 c.args.self.orders has (not has) has_is refl limited c.in_ok-turned.ensures refl
