-- Directives in order, one at a time.
use Rattle.std.proofs.Common.{◌≡◌, ℕ, ◌+◌, ◌<◌, List, drop, length, get_or, ap, sym, ◌∙◌}
use Rattle.std.specs.Prelude.{Result, Ok, Err}
use Rattle.std.proofs.lemmas.List.{at_drop_more}
use Rattle.smk_parse_tree.specs.declared.syntax.DirectiveForm.{DirectiveForm}
use Rattle.smk_eval_values.specs.declared.fault.ValueFault.{ValueFault}
use Rattle.smk_eval_values.specs.Expressions.{Scope, and_then}
use Rattle.smk_eval_rules.specs.declared.logs.NamedRule.{NamedRule}
use Rattle.smk_eval_rules.specs.Rules.{with_directive, with_directives}

said_more : (s : Scope) (p : NamedRule) (ds : List DirectiveForm) (i : ℕ) (d : DirectiveForm) (r : Result NamedRule ValueFault) → i < length ds → d ≡ get_or ds i d → with_directive s p d ≡ r
    → with_directives s p (drop i ds) ≡ and_then r (λ now. with_directives s now (drop (i + 1) ds))
said_more s p ds i d r lt is e =
    at_drop_more (λ (qs : List DirectiveForm). with_directives s p qs) ds i d lt
    ∙ ap (λ (x : DirectiveForm). and_then (with_directive s p x) (λ now. with_directives s now (drop (i + 1) ds))) (sym is)
    ∙ ap (λ (q : Result NamedRule ValueFault). and_then q (λ now. with_directives s now (drop (i + 1) ds))) e

pub said_on : (s : Scope) (p now : NamedRule) (ds : List DirectiveForm) (i : ℕ) (d : DirectiveForm) (x : Result NamedRule ValueFault) → i < length ds → d ≡ get_or ds i d → with_directive s p d ≡ Ok now
    → with_directives s p (drop i ds) ≡ x → with_directives s now (drop (i + 1) ds) ≡ x
said_on s p now ds i d x lt is e h = sym (said_more s p ds i d (Ok now) lt is e) ∙ h

pub said_wrong : (s : Scope) (p : NamedRule) (ds : List DirectiveForm) (i : ℕ) (d : DirectiveForm) (f : ValueFault) (x : Result NamedRule ValueFault) → i < length ds → d ≡ get_or ds i d → with_directive s p d ≡ Err f
    → with_directives s p (drop i ds) ≡ x → x ≡ Err f
said_wrong s p ds i d f x lt is e h = sym h ∙ said_more s p ds i d (Err f) lt is e
