use Rattle.std.proofs.Common.{List, ◌++◌, ap, ◌∙◌}
use Rattle.std.specs.List.{flat_map}
use Rattle.smk_base.specs.declared.tree.Pair.{Pair}
use Rattle.smk_world.specs.declared.recipe.Values.{Values}
use Rattle.smk_pattern.specs.Shapes.{Text}
use Rattle.smk_pattern.specs.Searching.{now_of}
use Rattle.smk_flow.specs.declared.rule.InPart.{InPart}
use Rattle.smk_flow.specs.Checks.{names_of, unknown_in, input_unknown, words_unknown}
use Rattle.smk_flow_build.proofs.NamesAdded.{five_more}
use Rattle.smk_flow_build.proofs.unknown.add_unknown_beside.Goals as goal

pub returns : goal.returns
returns c =
    let known = now_of c.args.known.now in
    let x0 = now_of c.args.found.now.items in
    let x1 = now_of c.add_unknown_texts.new.found.items in
    let x2 = now_of c.add_unknown_inputs.new.found.items in
    let x3 = now_of c.add_unknown_params.new.found.items in
    five_more _ _ _ _ _ _ _ _ _ _ _
    (c.in_ok-add_unknown_texts.ensures ∙ ap (λ (ts : List Text). x0 ++ flat_map (λ t. unknown_in known (names_of t)) ts) c.as_slice.ensures)
    (c.in_ok-add_unknown_inputs.ensures ∙ ap (λ (is : List InPart). x1 ++ flat_map (input_unknown known) is) c.as_slice-2.ensures)
    (c.in_ok-add_unknown_params.ensures ∙ ap (λ (vs : List Values). x2 ++ flat_map (λ (v : Values). flat_map (words_unknown known) v.values) vs) c.as_slice-3.ensures)
    (c.in_ok-add_unknown_resources.ensures ∙ ap (λ (ws : List Pair). x3 ++ flat_map (λ (w : Pair). words_unknown known w.value) ws) c.as_slice-4.ensures)
    c.in_ok-add_unknown_checkpoints.ensures
