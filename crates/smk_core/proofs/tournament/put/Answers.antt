use Rattle.std.proofs.Common.{◌+◌, ◌*◌, ◌/◌, min, ap₂, ◌∙◌, arith}
use Rattle.std.proofs.lemmas.List.{get_or_read}
use Rattle.smk_core.proofs.Trees.{begun_lifting, lifted}
use Rattle.smk_core.proofs.tournament.put.Goals as goal

pub loop-node-init : goal.loop-node-init
loop-node-init c = begun_lifting c.args.places c.args.at c.args.number c.args.nodes.now.items c.requires.inside c.requires.tree

pub loop-node-preserved : goal.loop-node-preserved
loop-node-preserved c =
    let nodes = c.loop-node.nodes.items in
    let half = c.loop-node.node / 2 in
    lifted c.args.places c.args.at c.args.number c.args.nodes.now.items nodes c.loop-node.node c.min.result c.loop-node.invariant c.loop-node-test.true
    (c.min.ensures
    ∙ ap₂ min (get_or_read nodes (2 * half) c.index.result.now (omega arith) c.index.ensures 0)
    (get_or_read nodes (2 * half + 1) c.index-in-loop-node.result.now (omega arith) c.index-in-loop-node.ensures 0))
