use Rattle.std.proofs.Common.{map, subst}
use Rattle.smk_eval_values.specs.Values.{Tells}
use Rattle.smk_eval_values.specs.Expressions.{Named, each, named_in}
use Rattle.smk_eval_rules.specs.declared.logs.Logs.{Logs}
use Rattle.smk_eval_rules.specs.Logs.{with_log}
use Rattle.smk_eval_rules.proofs.logs.all_logs.Goals as goal

pub returns : goal.returns
returns g c =
    let word = c.args.word.now in
    let items = map (named_in word (g.S.Scope.seen c.args.scope.now)) c.args.items.now in
    subst (λ (b : Logs). Tells c.with_items.result (each (λ (i : Named). i.value) (λ made i v. with_log word made i.name v) b items)) c.no_logs.ensures c.with_items.ensures
