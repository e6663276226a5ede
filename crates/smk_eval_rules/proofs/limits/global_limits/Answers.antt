use Rattle.std.proofs.Common.{List, ℕ, map, subst}
use Rattle.smk_eval_values.specs.Values.{Tells}
use Rattle.smk_eval_values.specs.Expressions.{named_in}
use Rattle.smk_eval_rules.specs.Items.{each_item as all_items, limit}
use Rattle.smk_eval_rules.proofs.limits.global_limits.Goals as goal

pub returns : goal.returns
returns g c =
    subst (λ (w : List ℕ). Tells c.each_item.result (all_items (limit w) (map (named_in w (g.S.Scope.seen c.args.scope.now)) c.args.items.now))) c.in_ok-word.ensures c.each_item.ensures
