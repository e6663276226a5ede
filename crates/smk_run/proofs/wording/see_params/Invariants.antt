use Rattle.std.proofs.Common.{◌≡◌, ◌∷◌, take, true}
use Rattle.std.specs.List.{list_all, flat_map}
use Rattle.smk_world.specs.declared.recipe.Values.{Values}
use Rattle.smk_world.specs.Trees.{is_text}
use Rattle.smk_run.proofs.wording.see_params.Given as goal

abbrev pub invariant-loop-param : goal.invariant-loop-param
invariant-loop-param l = list_all is_text (flat_map (λ (param : Values). param.name ∷ param.values) (take l.param-index l.params)) ≡ true
