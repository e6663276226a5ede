use Rattle.smk_world_nodes.specs.Nodes.{node_at}
use Rattle.smk_world.specs.World.{out_paths}
use Rattle.std.proofs.Common.{◌∙◌}
use Rattle.smk_world_mem.proofs.Lined.{removed_both}
use Rattle.smk_world_mem.proofs.crew.remove_owned.Goals as goal

pub returns : goal.returns
returns c = λ q.
    removed_both q (out_paths c.args.child.now.recipe) c.args.child.now.logs c.as_slice.result.now c.as_slice-2.result.now
    (node_at c.args.nodes.now q) (node_at c.remove_trees.new.self q) (node_at c.remove_trees-2.new.self q)
    (c.as_slice.ensures ∙ c.in_ok-outs.ensures) c.as_slice-2.ensures (c.in_ok-remove_trees.ensures q) (c.in_ok-remove_trees-2.ensures q)
