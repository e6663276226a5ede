use Rattle.std.proofs.Common.{◌≡◌, map, drop}
use Rattle.std.specs.List.{flat_map}
use Rattle.smk_world.specs.declared.recipe.Out.{Out}
use Rattle.smk_world.specs.declared.recipe.OutItem.{OutItem}
use Rattle.smk_world.specs.Trees.{first}
use Rattle.smk_world.specs.World.{out_paths}
use Rattle.smk_chain.proofs.naming.first_output.Given as goal

abbrev pub invariant-loop-item : goal.invariant-loop-item
invariant-loop-item l =
    first (out_paths l.job.recipe) ≡ first (flat_map (λ (item : OutItem). map (λ (out : Out). out.path) item.outs) (drop l.item-index l.job.recipe.outputs))
