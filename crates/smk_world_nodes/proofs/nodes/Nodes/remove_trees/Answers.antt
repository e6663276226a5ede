use Rattle.std.proofs.Common.{take, ap, sym, ◌∙◌, ◌++◌, ◌∷◌, [], ◌+◌, None}
use Rattle.std.specs.Prelude.{if◌then◌else◌}
use Rattle.std.proofs.lemmas.List.{take_more}
use Rattle.smk_base.specs.Path.{is_at_or_under}
use Rattle.smk_world_nodes.specs.Nodes.{node_at}
use Rattle.smk_world_nodes.proofs.Within.{one_more_gone}
use Rattle.smk_world_nodes.proofs.nodes.Nodes.remove_trees.Goals as goal

pub loop-path-preserved : goal.loop-path-preserved
loop-path-preserved c = λ q.
    let paths = c.args.paths.now in
    let i = c.loop-path.path-index in
    let p = c.path-item.result in
    one_more_gone q p (take i paths) (take (i + 1) paths) (node_at c.args.self.now q) (node_at c.loop-path.self q) (node_at c.remove_tree.new.self q)
    (take_more paths i p c.loop-path-test.true ∙ ap (λ x. take i paths ++ x ∷ []) (sym c.path-item.is)) (c.loop-path.invariant q)
    (c.in_ok-remove_tree.ensures q ∙ ap (λ t. if is_at_or_under q t then None else node_at c.loop-path.self q) c.as_str.ensures.text)
