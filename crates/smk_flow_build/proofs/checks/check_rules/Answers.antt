use Rattle.std.proofs.Common.{◌≡◌, [], ◌∷◌, ◌++◌, ◌+◌, ◌∙◌, List, map, take, drop, ap, sym}
use Rattle.std.proofs.lemmas.List.{at_drop_more, take_more, map_push}
use Rattle.smk_flow.specs.declared.rule.RulePart.{RulePart}
use Rattle.smk_flow.specs.declared.workflow.Patterns.{Patterns}
use Rattle.smk_flow.specs.PatternsOf.{patterns_of}
use Rattle.smk_flow.specs.Checks.{rule_in}
use Rattle.smk_flow_build.proofs.RulesPass.{pass_more, fail_more, fail_here}
use Rattle.smk_flow_build.proofs.checks.check_rules.Goals as goal

pub loop-part-preserved : goal.loop-part-preserved
loop-part-preserved c =
    let parts = c.args.parts.now in
    let i = c.loop-part.part-index in
    let part = c.part-item.result in
    let e : drop i parts ≡ part ∷ drop (i + 1) parts =
    at_drop_more (λ (xs : List RulePart). xs) parts i part c.loop-part-test.true ∙ ap (λ (x : RulePart). x ∷ drop (i + 1) parts) (sym c.part-item.is) in
    let t : take (i + 1) parts ≡ take i parts ++ part ∷ [] =
    take_more parts i part c.loop-part-test.true ∙ ap (λ (x : RulePart). take i parts ++ x ∷ []) (sym c.part-item.is) in
    let inv = c.loop-part.invariant in
    let p = c.in-Ok.ensures.passes in
    let outputs = c.in-Ok.ensures.outputs in
    let logs = c.in-Ok.ensures.logs in
    let made : c.in-Ok.made ≡ patterns_of part = λ j. record { outputs = outputs j; logs = logs j } in
    record {
      look = λ q. c.in_ok-add_rule-in-Ok.ensures (take i parts) inv.look q ∙ ap (λ (xs : List RulePart). rule_in xs q) (sym t);
      patterns =
          c.in_ok-push-in-Ok.ensures.ok
          ∙ ap (λ (ps : List Patterns). ps ++ c.in-Ok.made ∷ []) inv.patterns
          ∙ ap (λ (p : Patterns). map patterns_of (take i parts) ++ p ∷ []) made
          ∙ sym (map_push patterns_of (take i parts) part)
          ∙ ap (λ (xs : List RulePart). map patterns_of xs) (sym t);
      pass = λ h. inv.pass (pass_more _ (take i parts) (take (i + 1) parts) (drop i parts) (drop (i + 1) parts) part inv.look p e t h);
      fail = λ f h. inv.fail f (fail_more _ (take i parts) (take (i + 1) parts) (drop i parts) (drop (i + 1) parts) part f inv.look p e t h);
    }

pub returns-in-Err-clause-fails : goal.returns-in-Err-clause-fails
returns-in-Err-clause-fails c = λ known.
    let parts = c.args.parts.now in
    let i = c.loop-part.part-index in
    let part = c.part-item.result in
    let e : drop i parts ≡ part ∷ drop (i + 1) parts =
    at_drop_more (λ (xs : List RulePart). xs) parts i part c.loop-part-test.true ∙ ap (λ (x : RulePart). x ∷ drop (i + 1) parts) (sym c.part-item.is) in
    c.loop-part.invariant.fail c.in-Err.fault
    (fail_here _ (take i parts) (drop i parts) (drop (i + 1) parts) part c.in-Err.fault c.loop-part.invariant.look (c.in-Err.ensures.fails known) e)
