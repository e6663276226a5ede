use Rattle.std.proofs.Common.{sym, ap, ◌∙◌, take, ◌∷◌, ◌++◌, []}
use Rattle.std.proofs.lemmas.List.{take_more}
use Rattle.smk_base.specs.declared.tree.Pair.{Pair}
use Rattle.smk_pattern.specs.ByName.{text_at}
use Rattle.smk_pattern.proofs.Kept.{given_more, or_none}
use Rattle.smk_pattern.proofs.by_name.all_limits.Goals as goal

pub loop-pair-init : goal.loop-pair-init
loop-pair-init c = λ q some. or_none (text_at c.args.inline q)

pub loop-pair-preserved : goal.loop-pair-preserved
loop-pair-preserved c = λ q some.
    let given = c.args.given.now in
    let i = c.loop-pair.pair-index in
    let more = take_more given i _ c.loop-pair-test.true ∙ ap (λ (p : Pair). take i given ++ p ∷ []) (sym c.pair-item.is) in
    given_more q _ _ _ (take i given) _ c.pair-item.result more (c.loop-pair.invariant q some) (c.in_ok-add_given.ensures q some)
