-- Rules that pass, one after another.
use Rattle.std.proofs.Common.{◌≡◌, inl, inr, None, Some, List, [], ◌∷◌, ◌++◌, Option, sym, subst, ap, ◌∙◌}
use Rattle.smk_pattern.specs.Shapes.{Text}
use Rattle.smk_flow.specs.declared.rule.RulePart.{RulePart}
use Rattle.smk_flow.specs.declared.rule.Clause.{Clause}
use Rattle.smk_flow.specs.declared.fault.FlowFault.{FlowFault}
use Rattle.smk_flow.specs.Checks.{rule_in, or_else, stranger, contradiction, Passes, Fails, AllPass, OneFails, IsWorkflow, IsFault}

moved : (P : (Text → Option RulePart) → Type 0) (look : Text → Option RulePart) (above : List RulePart) → ((q : Text) → look q ≡ rule_in above q) → P look → P (rule_in above)
moved P look above same h = let f : look ≡ rule_in above = λ j. λ q. same q j in subst P f h

pub pass_more : (look : Text → Option RulePart) (above more xs later : List RulePart) (part : RulePart) → ((q : Text) → look q ≡ rule_in above q) →
    Passes look part → xs ≡ part ∷ later → more ≡ above ++ part ∷ [] → AllPass more later → AllPass above xs
pass_more look above more xs later part same p e t h =
    subst (λ (ys : List RulePart). AllPass above ys) (sym e)
    (moved (λ (l : Text → Option RulePart). Passes l part) look above same p, subst (λ (m : List RulePart). AllPass m later) t h)

pub fail_more : (look : Text → Option RulePart) (above more xs later : List RulePart) (part : RulePart) (f : FlowFault) → ((q : Text) → look q ≡ rule_in above q) →
    Passes look part → xs ≡ part ∷ later → more ≡ above ++ part ∷ [] → OneFails more later f → OneFails above xs f
fail_more look above more xs later part f same p e t h =
    subst (λ (ys : List RulePart). OneFails above ys f) (sym e)
    (inr (moved (λ (l : Text → Option RulePart). Passes l part) look above same p, subst (λ (m : List RulePart). OneFails m later f) t h))

pub fail_here : (look : Text → Option RulePart) (above xs later : List RulePart) (part : RulePart) (f : FlowFault) → ((q : Text) → look q ≡ rule_in above q) →
    Fails look part f → xs ≡ part ∷ later → OneFails above xs f
fail_here look above xs later part f same p e =
    subst (λ (ys : List RulePart). OneFails above ys f) (sym e) (inl (moved (λ (l : Text → Option RulePart). Fails l part f) look above same p))

-- ---- the whole workflow

pub is_workflow : (look : Text → Option RulePart) (rules : List RulePart) (orders : List Clause) → ((q : Text) → look q ≡ rule_in rules q) → AllPass [] rules →
    stranger look orders ≡ None → contradiction orders orders ≡ None → IsWorkflow rules orders
is_workflow look rules orders same pass known settled = record {
  rules_pass = pass;
  known = moved (λ (l : Text → Option RulePart). stranger l orders ≡ None) look rules same known;
  settled = settled;
}

pub is_rule_fault : (rules : List RulePart) (orders : List Clause) (f : FlowFault) → OneFails [] rules f → IsFault rules orders f
is_rule_fault rules orders f h = inl h

pub is_clause_fault : (look : Text → Option RulePart) (rules : List RulePart) (orders : List Clause) (f : FlowFault) → ((q : Text) → look q ≡ rule_in rules q) →
    AllPass [] rules → or_else (stranger look orders) (contradiction orders orders) ≡ Some f → IsFault rules orders f
is_clause_fault look rules orders f same pass h =
    inr (pass, moved (λ (l : Text → Option RulePart). or_else (stranger l orders) (contradiction orders orders) ≡ Some f) look rules same h)

pub clause_first : (a b : Option FlowFault) (f : FlowFault) → a ≡ Some f → or_else a b ≡ Some f
clause_first a b f e = ap (λ (x : Option FlowFault). or_else x b) e

pub clause_second : (a b : Option FlowFault) (f : FlowFault) → a ≡ None → b ≡ Some f → or_else a b ≡ Some f
clause_second a b f ea e = ap (λ (x : Option FlowFault). or_else x b) ea ∙ e
