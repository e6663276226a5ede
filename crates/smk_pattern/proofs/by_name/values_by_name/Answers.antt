use Rattle.std.proofs.Common.{sym, ap, ◌∙◌, take, ◌∷◌, ◌++◌, [], None, arith}
use Rattle.std.proofs.lemmas.List.{take_more, take_all}
use Rattle.smk_base.specs.declared.tree.Pair.{Pair}
use Rattle.smk_pattern.specs.Grammar.{given_limit}
use Rattle.smk_pattern.proofs.Kept.{given_more, value_given}
use Rattle.smk_pattern.proofs.by_name.values_by_name.Goals as goal

pub loop-pair-preserved : goal.loop-pair-preserved
loop-pair-preserved c = λ q.
    let binding = c.args.binding.now in
    let i = c.loop-pair.pair-index in
    let more = take_more binding i _ c.loop-pair-test.true ∙ ap (λ (p : Pair). take i binding ++ p ∷ []) (sym c.pair-item.is) in
    given_more q None _ _ (take i binding) _ c.pair-item.result more (c.loop-pair.invariant q) (c.in_ok-add_value.ensures q)

pub returns : goal.returns
returns c = λ q.
    c.loop-pair.invariant q ∙ ap (given_limit q) (take_all _ c.args.binding.now (omega arith)) ∙ sym (value_given q c.args.binding.now)
