use Rattle.std.proofs.Common.{map, subst}
use Rattle.smk_eval_values.specs.Values.{Tells}
use Rattle.smk_eval_values.specs.Expressions.{Named, each, named_in}
use Rattle.smk_eval_rules.specs.declared.resources.Resources.{Resources}
use Rattle.smk_eval_rules.specs.Items.{with_resource}
use Rattle.smk_eval_rules.proofs.items.resources.Goals as goal

pub returns : goal.returns
returns g c =
    let word = c.args.word.now in
    let items = map (named_in word (g.S.Scope.seen c.args.scope.now)) c.args.items.now in
    subst (λ (b : Resources). Tells c.with_items.result (each (λ (i : Named). i.value) (λ made i v. with_resource word made i.name v) b items)) c.no_resources.ensures c.with_items.ensures
