use Rattle.std.proofs.Common.{◌≡◌, drop, map}
use Rattle.smk_eval_values.specs.Values.{plus, total}
use Rattle.smk_eval_values.specs.Expressions.{Valued, Named, each, listed, summed, names, with_items, with_name, value_in, named_in}
use Rattle.smk_eval_values.proofs.evaluating.+evaluate.Given as goal

abbrev pub invariant-many-loop-part : goal.invariant-many-loop-part
invariant-many-loop-part g l =
    let s = g.S.Scope.seen l.scope in
    each (λ (r : Valued). r) (λ made _ v. with_items l.word made v) l.texts (map (value_in l.word s) (drop l.part-index l.parts)) ≡ listed l.word (map (value_in l.word s) l.parts)

abbrev pub invariant-names-loop-item : goal.invariant-names-loop-item
invariant-names-loop-item g l =
    let s = g.S.Scope.seen l.scope in
    each (λ (i : Named). i.value) (λ c i v. with_name c i.name v) l.call (map (named_in l.word s) (drop l.item-index l.items)) ≡ names (map (named_in l.word s) l.items)

abbrev pub invariant-sum-loop-part : goal.invariant-sum-loop-part
invariant-sum-loop-part g l =
    let s = g.S.Scope.seen l.scope in
    each (λ (r : Valued). r) (λ sum _ w. plus sum w) (total l.total) (map (value_in l.word s) (drop l.part-index l.later)) ≡ summed (map (value_in l.word s) l.parts)
