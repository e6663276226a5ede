use Rattle.std.proofs.Common.{◌≡◌, ◌∙◌, ap, length, string_bytes, ◌++◌}
use Rattle.std.proofs.lemmas.Result.{on_ok_weaker}
use Rattle.smk_record.specs.Spelling.{first_line, text, num, pair, values, items, list, out_item}
use Rattle.smk_record.proofs.Appended.{eight_appended}
use Rattle.smk_record.proofs.file.push_head.Goals as goal

pub returns : goal.returns
returns c =
    let r = c.args.kept.now in
    let inputs : string_bytes c.push_inputs.new.text ≡ string_bytes c.push_to-4.new.text ++ (num (length r.recipe.inputs) ++ items r.recipe.inputs r.stamps) =
    c.in_ok-push_inputs.ensures ∙ ap (λ is. string_bytes c.push_to-4.new.text ++ (num (length is) ++ items is c.as_slice-2.result.now)) c.as_slice.ensures ∙ ap (λ ss. string_bytes c.push_to-4.new.text ++ (num (length r.recipe.inputs) ++ items r.recipe.inputs ss)) c.as_slice-2.ensures in
    on_ok_weaker c.push_to-5.result
    (λ last. eight_appended (first_line r.format) (text r.path) (num r.made) (text r.recipe.template) (list pair r.recipe.wildcards) (list values r.recipe.params) (num (length r.recipe.inputs) ++ items r.recipe.inputs r.stamps) (list out_item r.recipe.outputs)
    (string_bytes c.args.text.now) (string_bytes c.push_first_line.new.text) (string_bytes c.push_to.new.text) (string_bytes c.push_number.new.text) (string_bytes c.push_to-2.new.text) (string_bytes c.push_to-3.new.text) (string_bytes c.push_to-4.new.text) (string_bytes c.push_inputs.new.text) (string_bytes c.push_to-5.new.text)
    c.in_ok-push_first_line.ensures c.in_ok-push_to.ensures c.in_ok-push_number.ensures c.in_ok-push_to-2.ensures c.in_ok-push_to-3.ensures c.in_ok-push_to-4.ensures inputs last)
    c.push_to-5.ensures
