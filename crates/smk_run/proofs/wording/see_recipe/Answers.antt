use Rattle.std.proofs.Common.{◌≡◌, List, map, true, subst}
use Rattle.std.specs.List.{flat_map, list_all}
use Rattle.smk_world.specs.declared.recipe.Item.{Item}
use Rattle.smk_world.specs.declared.recipe.Out.{Out}
use Rattle.smk_world.specs.declared.recipe.OutItem.{OutItem}
use Rattle.smk_world.specs.Trees.{is_path_text}
use Rattle.smk_run.proofs.wording.see_recipe.Goals as goal

pub returns-clause-inputs : goal.returns-clause-inputs
returns-clause-inputs c = subst (λ (items : List Item). list_all is_path_text (flat_map (λ (item : Item). item.paths) items) ≡ true) c.as_slice.ensures c.see_inputs.ensures

pub returns-clause-outputs : goal.returns-clause-outputs
returns-clause-outputs c =
    subst (λ (items : List OutItem). list_all is_path_text (flat_map (λ (item : OutItem). map (λ (out : Out). out.path) item.outs) items) ≡ true) c.as_slice-2.ensures c.see_outputs.ensures
