use Rattle.std.proofs.Common.{Some, string_bytes, ap, ◌∙◌, bytes_eq}
use Rattle.std.specs.Prelude.{if◌then◌else◌}
use Rattle.std.proofs.lemmas.Map.Text.{btree_map_updates_text}
use Rattle.smk_world_nodes.specs.Nodes.{node_at}
use Rattle.smk_world_nodes.proofs.Changes.{set_is}
use Rattle.smk_world_nodes.proofs.nodes.Nodes.set.Goals as goal

pub returns-clause-ok : goal.returns-clause-ok
returns-clause-ok c = λ q.
    btree_map_updates_text (string_bytes c.in_ok-place.place) c.args.self.now.nodes c.insert.new.self (Some c.args.node) c.in_ok-insert.ensures.updates q
    ∙ set_is (string_bytes c.in_ok-place.place) q (Some c.args.node) (node_at c.args.self.now q)
    ∙ ap (λ p. if bytes_eq q p then Some c.args.node else node_at c.args.self.now q) c.in_ok-place.ensures.ok
