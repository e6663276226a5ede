use Rattle.std.proofs.Common.{◌≡◌, ap, ◌∙◌}
use Rattle.std.specs.List.{list_any, zip, flat_map}
use Rattle.smk_world.specs.declared.recipe.Item.{Item}
use Rattle.smk_world.specs.World.{in_paths}
use Rattle.smk_trigger.specs.Updates.{is_other}
use Rattle.smk_trigger.proofs.updates.recorded_in.Goals as goal

pub returns : goal.returns
returns c = λ q now.
    let paths : c.as_slice-2.result.now ≡ in_paths c.args.earlier.now.recipe =
    c.as_slice-2.ensures ∙ c.in_ok-paths.ensures ∙ ap (flat_map (λ (i : Item). i.paths)) (c.as_slice.ensures ∙ ap (λ r. r.inputs) c.recipe.ensures) in
    c.in_ok-recorded.ensures q now ∙ ap (λ ps. list_any (is_other q now) (zip ps c.as_slice-3.result.now)) paths
    ∙ ap (λ ss. list_any (is_other q now) (zip (in_paths c.args.earlier.now.recipe) ss)) (c.as_slice-3.ensures ∙ c.stamps.ensures)
