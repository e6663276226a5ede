use Rattle.std.proofs.Common.{◌≡◌, List, length, map, ap, subst, ◌∙◌, true}
use Rattle.std.specs.List.{flat_map, list_all}
use Rattle.smk_world.specs.declared.recipe.Item.{Item}
use Rattle.smk_world.specs.declared.recipe.Out.{Out}
use Rattle.smk_world.specs.declared.recipe.OutItem.{OutItem}
use Rattle.smk_world.specs.Trees.{is_path_text}
use Rattle.smk_run.specs.Stamps.{number_at}
use Rattle.smk_run.proofs.Taking.{taken, not_taken, nothing_taken}
use Rattle.smk_run.proofs.Valid.{valid_each, writable_each}
use Rattle.smk_run.proofs.turns.take.Goals as goal

pub returns-in_default : goal.returns-in_default
returns-in_default g c =
    nothing_taken g.W.Files.act c.args.flow.now (number_at c.args.serials.now) c.args.job.now c.args.command.now c.args.made _ _ c.requires.none_runs

pub run_one-requires-clause-valid : goal.run_one-requires-clause-valid
run_one-requires-clause-valid g c =
    let recipe = c.args.job.now.recipe in
    let at = c.in-Ok.ensures ∙ ap (λ (xs : List Item). flat_map (λ (item : Item). item.paths) xs) c.as_slice.ensures in
    valid_each c.args.made recipe c.in-Ok-inputs_of.stamps (c.in-Ok-inputs_of.ensures.each ∙ ap length (c.as_slice-4.ensures ∙ at)) c.requires.positive c.in-Ok-inputs_of.ensures.earlier c.requires.wildcards
    (subst (λ ps. list_all is_path_text ps ≡ true) (c.as_slice-2.ensures ∙ at) c.see_paths.ensures)
    (subst (λ (items : List OutItem). list_all is_path_text (flat_map (λ (item : OutItem). map (λ (out : Out). out.path) item.outs) items) ≡ true) c.as_slice-3.ensures c.see_outputs.ensures)

pub returns-in-Ok-inputs_of : goal.returns-in-Ok-inputs_of
returns-in-Ok-inputs_of g c =
    let at = c.in-Ok.ensures ∙ ap (λ (xs : List Item). flat_map (λ (item : Item). item.paths) xs) c.as_slice.ensures in
    taken g.W.Files.act c.args.flow.now (number_at c.args.serials.now) c.args.job.now c.args.command.now c.args.made c.as_slice-4.result.now c.in-Ok-inputs_of.stamps c.inputs_of.result c.run_one.result
    _ _ _ _ _ (c.as_slice-4.ensures ∙ at) c.in-Ok-inputs_of.is c.inputs_of.ensures.acted c.run_one.ensures.never
    (record {
      valid = valid_each c.args.made c.args.job.now.recipe c.in-Ok-inputs_of.stamps (c.in-Ok-inputs_of.ensures.each ∙ ap length (c.as_slice-4.ensures ∙ at)) c.requires.positive c.in-Ok-inputs_of.ensures.earlier c.requires.wildcards
          (subst (λ ps. list_all is_path_text ps ≡ true) (c.as_slice-2.ensures ∙ at) c.see_paths.ensures)
          (subst (λ (items : List OutItem). list_all is_path_text (flat_map (λ (item : OutItem). map (λ (out : Out). out.path) item.outs) items) ≡ true) c.as_slice-3.ensures c.see_outputs.ensures);
      writable = writable_each c.args.made c.args.job.now.recipe c.in-Ok-inputs_of.stamps c.ranges.made.fits c.in-Ok-inputs_of.ensures.small c.see_texts.ensures;
    }) c.run_one.ensures.run

pub returns : goal.returns
returns g c =
    let at = c.in-Ok.ensures ∙ ap (λ (xs : List Item). flat_map (λ (item : Item). item.paths) xs) c.as_slice.ensures in
    not_taken g.W.Files.act c.args.flow.now (number_at c.args.serials.now) c.args.job.now c.args.command.now c.args.made c.as_slice-4.result.now c.in-Err.stop c.inputs_of.result
    _ _ _ (c.as_slice-4.ensures ∙ at) c.in-Err.is c.in-Err.ensures.kind c.inputs_of.ensures.acted c.requires.none_runs
