use Rattle.std.proofs.Common.{◌≡◌, take, ◌∷◌, subst, true}
use Rattle.std.specs.List.{flat_map, list_all}
use Rattle.smk_world.specs.declared.recipe.Values.{Values}
use Rattle.smk_world.specs.Trees.{is_text}
use Rattle.smk_record.proofs.Lists.{flat_more}
use Rattle.smk_run.proofs.Seen.{all_join, all_then, text_seen}
use Rattle.smk_run.proofs.wording.see_params.Goals as goal

pub loop-param-preserved : goal.loop-param-preserved
loop-param-preserved c =
    let param = c.param-item.result in
    let params = c.args.params.now in
    let i = c.loop-param.param-index in
    let e = flat_more (λ (p : Values). p.name ∷ p.values) params i param c.loop-param-test.true c.param-item.is in
    all_join is_text (flat_map (λ (p : Values). p.name ∷ p.values) (take i params)) (param.name ∷ param.values) _ e c.loop-param.invariant
    (all_then is_text param.name param.values (text_seen _ param.name c.as_str-name.ensures c.as_str-name.utf8) (subst (λ words. list_all is_text words ≡ true) c.as_slice.ensures c.see_words.ensures))
