use Rattle.std.proofs.Common.{None, ◌∙◌}
use Rattle.std.proofs.lemmas.Map.Text.{btree_map_updates_text}
use Rattle.smk_world_nodes.specs.Nodes.{node_at}
use Rattle.smk_world_nodes.proofs.Changes.{set_is}
use Rattle.smk_world_nodes.proofs.nodes.Nodes.drop_one.Goals as goal

pub returns : goal.returns
returns c = λ q.
    btree_map_updates_text c.args.p.now c.args.self.now.nodes c.remove.new.self None c.remove.ensures.updates q
    ∙ set_is c.args.p.now q None (node_at c.args.self.now q)
