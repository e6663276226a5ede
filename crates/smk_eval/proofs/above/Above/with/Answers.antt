use Rattle.std.proofs.Common.{◌∙◌, ℕ, List, ap, sym, subst}
use Rattle.std.specs.Prelude.{string_bytes}
use Rattle.smk_flow.specs.declared.rule.RulePart.{RulePart}
use Rattle.smk_eval.specs.Kept.{kept_text, with_place, ArePlaced}
use Rattle.smk_eval.proofs.Placed.{more_placed}
use Rattle.smk_eval.proofs.above.Above.with.Goals as goal

pub invariant_of-result : goal.invariant_of-result
invariant_of-result c =
    subst (λ (ps : List RulePart). ArePlaced c.in_ok-places.places ps) (sym c.in_ok-push.ensures.ok)
    (more_placed c.self.inside.places c.in_ok-places.places c.self.inside.parts c.args.part (string_bytes c.in_ok-name.name) (sym (c.in_ok-name.ensures.ok ∙ c.as_str.ensures))
    (λ q. c.in_ok-places.ensures q ∙ ap (λ (n : ℕ). with_place (kept_text c.self.inside.places) (string_bytes c.in_ok-name.name) n q) c.len.ensures)
    c.self.invariant)
