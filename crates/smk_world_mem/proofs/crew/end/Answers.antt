use Rattle.std.proofs.Common.{ap, sym, subst, ◌∙◌}
use Rattle.smk_world.specs.World.{owned_paths, standing}
use Rattle.smk_world_nodes.specs.Nodes.{node_at}
use Rattle.smk_world_mem.specs.Act.{or_then}
use Rattle.smk_world_mem.proofs.Lined.{AllInside, end_nodes}
use Rattle.smk_world_mem.proofs.Ends.{left_inside}
use Rattle.smk_world_mem.proofs.crew.end.Goals as goal

pub returns-clause-nodes : goal.returns-clause-nodes
returns-clause-nodes c = λ q.
    let recipe = c.args.child.now.recipe in
    let logs = c.args.child.now.logs in
    end_nodes (owned_paths recipe logs) c.in_ok-left.left q (node_at c.args.nodes.now q) (node_at c.remove_owned.new.nodes q) (node_at c.put_each.new.nodes q)
    (subst (AllInside (owned_paths recipe logs)) (sym c.in_ok-left.ensures) (left_inside _ recipe logs _ _ c.args.now))
    (c.in_ok-remove_owned.ensures q) (c.in_ok-put_each.ensures q ∙ ap (λ l. or_then (node_at c.remove_owned.new.nodes q) (standing l q)) c.as_slice-3.ensures)
