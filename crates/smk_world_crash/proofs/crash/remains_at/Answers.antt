use Rattle.std.proofs.Common.{None, ap, sym, subst, ◌∙◌}
use Rattle.std.specs.Prelude.{if◌then◌else◌}
use Rattle.smk_world.specs.World.{is_named, firmly}
use Rattle.smk_world_nodes.specs.Nodes.{node_at}
use Rattle.smk_world_crash.specs.Crash.{LeadTo, left_at, state_by}
use Rattle.smk_world_crash.proofs.crash.remains_at.Goals as goal

pub returns-clause-nodes : goal.returns-clause-nodes
returns-clause-nodes c = λ q. ap (λ n. node_at n q) c.in_ok-remains.ensures.nodes ∙ c.in_ok-nodes.ensures q

pub returns-clause-steps : goal.returns-clause-steps
returns-clause-steps c = λ whole.
    subst (λ n. LeadTo c.in_ok-remains.remains.steps n) (sym c.in_ok-remains.ensures.nodes)
    (c.in_ok-remains.ensures.steps whole
    (λ q e.
    c.in_ok-nodes.ensures q
    ∙ ap (λ b. if b then left_at c.args.choice (is_named q c.args.owned.now) (state_by q (firmly None) c.args.steps.now c.args.reaches.now) else None) e))
