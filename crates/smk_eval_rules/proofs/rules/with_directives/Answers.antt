use Rattle.smk_eval_rules.proofs.Said.{said_on, said_wrong}
use Rattle.smk_eval_rules.specs.Rules.{with_directives}
use Rattle.smk_eval_rules.proofs.rules.with_directives.Goals as goal

pub loop-form-preserved : goal.loop-form-preserved
loop-form-preserved g c =
    let s = g.S.Scope.seen c.args.scope.now in
    let forms = c.args.forms.now in
    said_on s c.loop-form.made c.in-Ok.now forms c.loop-form.form-index c.form-item.result (with_directives s c.args.rule forms) c.loop-form-test.true c.form-item.is
    c.in-Ok.ensures c.loop-form.invariant

pub returns-in-Err : goal.returns-in-Err
returns-in-Err g c = λ h.
    let s = g.S.Scope.seen c.args.scope.now in
    let forms = c.args.forms.now in
    said_wrong s c.loop-form.made forms c.loop-form.form-index c.form-item.result c.in-Err.fault (with_directives s c.args.rule forms) c.loop-form-test.true c.form-item.is
    (c.in-Err.ensures h) c.loop-form.invariant
