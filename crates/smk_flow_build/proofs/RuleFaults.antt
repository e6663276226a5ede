-- The first of several faults.
use Rattle.std.proofs.Common.{◌≡◌, Option, Some, None, true, false, is_some, ap, ◌∙◌}
use Rattle.smk_pattern.specs.Shapes.{Text}
use Rattle.smk_flow.specs.declared.rule.RulePart.{RulePart}
use Rattle.smk_flow.specs.declared.fault.FlowFault.{FlowFault}
use Rattle.smk_flow.specs.Checks.{or_else, texts_of, AreRead, AreUnread, rule_fault, Passes, Fails, doubled, unread, wrong}

pub or_none : (a b c : Option FlowFault) → a ≡ None → b ≡ None → c ≡ None → or_else a (or_else b c) ≡ None
or_none a b c ea eb ec = ap (λ (x : Option FlowFault). or_else x (or_else b c)) ea ∙ ap (λ (x : Option FlowFault). or_else x c) eb ∙ ec

pub or_first : (a b c : Option FlowFault) (f : FlowFault) → a ≡ Some f → or_else a (or_else b c) ≡ Some f
or_first a b c f e = ap (λ (x : Option FlowFault). or_else x (or_else b c)) e

pub or_second : (a b c : Option FlowFault) (f : FlowFault) → a ≡ None → b ≡ Some f → or_else a (or_else b c) ≡ Some f
or_second a b c f ea e = ap (λ (x : Option FlowFault). or_else x (or_else b c)) ea ∙ ap (λ (x : Option FlowFault). or_else x c) e

pub or_third : (a b c : Option FlowFault) (f : FlowFault) → a ≡ None → b ≡ None → c ≡ Some f → or_else a (or_else b c) ≡ Some f
or_third a b c f ea eb e = ap (λ (x : Option FlowFault). or_else x (or_else b c)) ea ∙ ap (λ (x : Option FlowFault). or_else x c) eb ∙ e

pub passes : (above : Text → Option RulePart) (part : RulePart) → is_some (above part.name) ≡ false → AreRead part.limits (texts_of part) →
    rule_fault above part ≡ None → Passes above part
passes above part n r c = record { name = n; texts = r; checks = c }

pub is_doubled : (above : Text → Option RulePart) (part : RulePart) (f : FlowFault) → is_some (above part.name) ≡ true →
    f ≡ FlowFault.DoubledRule part.file part.line part.name → Fails above part f
is_doubled above part f n e = doubled n e

pub is_unread : (above : Text → Option RulePart) (part : RulePart) (f : FlowFault) → is_some (above part.name) ≡ false → AreUnread part (texts_of part) f → Fails above part f
is_unread above part f n u = unread n u

pub is_wrong : (above : Text → Option RulePart) (part : RulePart) (f : FlowFault) → is_some (above part.name) ≡ false → AreRead part.limits (texts_of part) →
    rule_fault above part ≡ Some f → Fails above part f
is_wrong above part f n r w = wrong n r w
