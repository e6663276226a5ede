use Rattle.std.proofs.Common.{◌≡◌, map, take, true}
use Rattle.std.specs.List.{list_all, flat_map}
use Rattle.smk_world.specs.declared.recipe.Out.{Out}
use Rattle.smk_world.specs.declared.recipe.OutItem.{OutItem}
use Rattle.smk_world.specs.Trees.{is_path_text}
use Rattle.smk_run.proofs.stamps.see_outputs.Given as goal

abbrev pub invariant-loop-item : goal.invariant-loop-item
invariant-loop-item l = list_all is_path_text (flat_map (λ (item : OutItem). map (λ (out : Out). out.path) item.outs) (take l.item-index l.outputs)) ≡ true
