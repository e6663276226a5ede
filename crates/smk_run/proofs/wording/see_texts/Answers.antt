use Rattle.std.proofs.Common.{◌≡◌, ◌∷◌, ◌++◌, [], List, map, refl, subst, true}
use Rattle.std.specs.List.{flat_map, list_all}
use Rattle.smk_base.specs.declared.tree.Pair.{Pair}
use Rattle.smk_world.specs.declared.recipe.Item.{Item}
use Rattle.smk_world.specs.declared.recipe.OutItem.{OutItem}
use Rattle.smk_world.specs.declared.recipe.Values.{Values}
use Rattle.smk_world.specs.Trees.{is_text}
use Rattle.smk_run.proofs.Seen.{all_join, all_then, text_seen}
use Rattle.smk_run.proofs.wording.see_texts.Goals as goal

pub returns : goal.returns
returns c =
    let recipe = c.args.recipe.now in
    let pairs = flat_map (λ (p : Pair). p.name ∷ p.value ∷ []) recipe.wildcards in
    let params = flat_map (λ (v : Values). v.name ∷ v.values) recipe.params in
    let inputs = map (λ (i : Item). i.name) recipe.inputs in
    let outputs = map (λ (o : OutItem). o.name) recipe.outputs in
    all_then is_text recipe.template (pairs ++ (params ++ (inputs ++ outputs))) (text_seen _ recipe.template c.as_str-template.ensures c.as_str-template.utf8)
    (all_join is_text pairs (params ++ (inputs ++ outputs)) _ refl
    (subst (λ (xs : List Pair). list_all is_text (flat_map (λ (p : Pair). p.name ∷ p.value ∷ []) xs) ≡ true) c.as_slice.ensures c.see_pairs.ensures)
    (all_join is_text params (inputs ++ outputs) _ refl
    (subst (λ (xs : List Values). list_all is_text (flat_map (λ (v : Values). v.name ∷ v.values) xs) ≡ true) c.as_slice-2.ensures c.see_params.ensures)
    (all_join is_text inputs outputs _ refl
    (subst (λ (xs : List Item). list_all is_text (map (λ (i : Item). i.name) xs) ≡ true) c.as_slice-3.ensures c.see_input_names.ensures)
    (subst (λ (xs : List OutItem). list_all is_text (map (λ (o : OutItem). o.name) xs) ≡ true) c.as_slice-4.ensures c.see_output_names.ensures))))
