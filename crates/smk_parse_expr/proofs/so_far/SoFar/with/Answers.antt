use Rattle.std.proofs.Common.{ℕ, List, length, subst, sym, ap, ◌∙◌, ◌||◌, ◌==◌}
use Rattle.std.specs.Prelude.{not}
use Rattle.smk_parse_tree.specs.declared.syntax.ItemForm.{ItemForm}
use Rattle.smk_parse_expr.specs.SoFar.{Tells}
use Rattle.smk_parse_expr.proofs.Told.{told}
use Rattle.smk_parse_expr.proofs.so_far.SoFar.with.Goals as goal

pub invariant_of-result : goal.invariant_of-result
invariant_of-result c =
    let more = told c.self.inside.items c.args.item c.self.inside.names c.insert.new.self c.in_ok-name.name c.self.inside.named c.is_named-named.result c.self.invariant
    (c.in_ok-name.ensures.ok ∙ c.as_str.ensures) c.in_ok-insert.ensures.updates
    (c.is_named-named.ensures ∙ ap (λ (v : List ℕ). c.self.inside.named || not (length v == 0)) c.as_str-2.ensures) in
    subst (λ (v : List ItemForm). Tells v c.insert.new.self c.is_named-named.result) (sym c.in_ok-push.ensures.ok) more
