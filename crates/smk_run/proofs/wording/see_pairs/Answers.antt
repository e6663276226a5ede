use Rattle.std.proofs.Common.{take, ◌∷◌, [], refl}
use Rattle.std.specs.List.{flat_map}
use Rattle.smk_base.specs.declared.tree.Pair.{Pair}
use Rattle.smk_world.specs.Trees.{is_text}
use Rattle.smk_record.proofs.Lists.{flat_more}
use Rattle.smk_run.proofs.Seen.{all_join, all_then, text_seen}
use Rattle.smk_run.proofs.wording.see_pairs.Goals as goal

pub loop-pair-preserved : goal.loop-pair-preserved
loop-pair-preserved c =
    let pair = c.pair-item.result in
    let pairs = c.args.pairs.now in
    let i = c.loop-pair.pair-index in
    let e = flat_more (λ (p : Pair). p.name ∷ p.value ∷ []) pairs i pair c.loop-pair-test.true c.pair-item.is in
    all_join is_text (flat_map (λ (p : Pair). p.name ∷ p.value ∷ []) (take i pairs)) (pair.name ∷ pair.value ∷ []) _ e c.loop-pair.invariant
    (all_then is_text pair.name (pair.value ∷ []) (text_seen _ pair.name c.as_str-name.ensures c.as_str-name.utf8)
    (all_then is_text pair.value [] (text_seen _ pair.value c.as_str-value.ensures c.as_str-value.utf8) refl))
