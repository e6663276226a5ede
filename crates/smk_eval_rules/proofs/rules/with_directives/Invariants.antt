use Rattle.std.proofs.Common.{◌≡◌, drop}
use Rattle.smk_eval_rules.specs.Rules.{with_directives}
use Rattle.smk_eval_rules.proofs.rules.with_directives.Given as goal

abbrev pub invariant-loop-form : goal.invariant-loop-form
invariant-loop-form g l =
    let s = g.S.Scope.seen l.scope in
    with_directives s l.made (drop l.form-index l.forms) ≡ with_directives s l.fn.rule l.forms
