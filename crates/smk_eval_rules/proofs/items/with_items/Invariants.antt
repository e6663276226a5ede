use Rattle.std.proofs.Common.{◌≡◌, drop, map}
use Rattle.smk_eval_values.specs.Expressions.{Named, each, named_in}
use Rattle.smk_eval_rules.proofs.items.with_items.Given as goal

abbrev pub invariant-loop-item : goal.invariant-loop-item
invariant-loop-item g l =
    let s = g.S.Scope.seen l.scope in
    each (λ (i : Named). i.value) (λ made i v. g.T.Takes.taken l.word made i.name v) l.made (map (named_in l.word s) (drop l.item-index l.items))
    ≡ each (λ (i : Named). i.value) (λ made i v. g.T.Takes.taken l.word made i.name v) l.fn.begun (map (named_in l.word s) l.items)
