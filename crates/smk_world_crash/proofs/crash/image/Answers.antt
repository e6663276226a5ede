use Rattle.std.proofs.Common.{None, take, ap, sym, ◌∙◌, ◌++◌, ◌∷◌, [], ◌+◌, bytes_eq}
use Rattle.std.specs.Prelude.{if◌then◌else◌}
use Rattle.std.proofs.lemmas.List.{take_more}
use Rattle.smk_world.specs.World.{is_named, firmly}
use Rattle.smk_world_nodes.specs.Nodes.{node_at}
use Rattle.smk_world_crash.specs.Crash.{left_at, state_by}
use Rattle.smk_world_crash.proofs.Images.{one_more}
use Rattle.smk_world_crash.proofs.crash.image.Goals as goal

pub loop-name-preserved : goal.loop-name-preserved
loop-name-preserved c = λ q.
    let names = c.args.names.now in
    let i = c.loop-name.name-index in
    let p = c.name-item.result in
    one_more q p (take i names) (take (i + 1) names) (λ r. left_at c.args.choice (is_named r c.args.owned.now) (state_by r (firmly None) c.args.steps.now c.args.reaches.now))
    (node_at c.loop-name.nodes q) (node_at c.set_maybe.new.nodes q)
    (take_more names i p c.loop-name-test.true ∙ ap (λ x. take i names ++ x ∷ []) (sym c.name-item.is)) (c.loop-name.invariant q)
    (c.in_ok-set_maybe.ensures q
    ∙ ap (λ t. if bytes_eq q t then c.in_ok-node.node else node_at c.loop-name.nodes q) c.as_str-in-loop-name.ensures
    ∙ ap (λ n. if bytes_eq q p then n else node_at c.loop-name.nodes q)
    (c.in_ok-node.ensures ∙ ap (λ t. left_at c.args.choice (is_named t c.args.owned.now) (state_by t (firmly None) c.args.steps.now c.args.reaches.now)) c.as_str.ensures))
