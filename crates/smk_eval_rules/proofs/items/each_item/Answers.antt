use Rattle.std.proofs.Common.{List, map, subst}
use Rattle.smk_eval_values.specs.Values.{Tells}
use Rattle.smk_eval_values.specs.Expressions.{Named, each, named_in}
use Rattle.smk_eval_rules.specs.Items.{added}
use Rattle.smk_eval_rules.proofs.items.each_item.Goals as goal

pub returns : goal.returns
returns g c =
    let word = c.args.word.now in
    let items = map (named_in word (g.S.Scope.seen c.args.scope.now)) c.args.items.now in
    subst (λ (b : List g.row.I.Denot). Tells c.with_items.result (each (λ (i : Named). i.value) (λ made i v. added made (g.I.Item.meant word i.name v)) b items)) c.new.ensures c.with_items.ensures
