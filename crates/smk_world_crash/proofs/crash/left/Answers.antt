use Rattle.std.proofs.Common.{[], None, ap, ◌∙◌, ◌||◌}
use Rattle.std.specs.Prelude.{if◌then◌else◌}
use Rattle.smk_world.specs.World.{is_named, firmly}
use Rattle.smk_world_crash.specs.Crash.{left_at, state_by, all_names, all_reached}
use Rattle.smk_world_crash.proofs.crash.left.Goals as goal

pub returns-clause-nodes : goal.returns-clause-nodes
returns-clause-nodes c = λ q.
    let steps = c.args.steps.now in
    let owned = c.in_ok-owned.owned in
    let names = c.in_ok-names.names in
    c.in_ok-remains.ensures.nodes q
    ∙ ap (λ ns. if is_named q ns then left_at c.args.choice (is_named q c.as_slice-2.result.now) (state_by q (firmly None) steps c.as_slice-3.result.now) else None) c.as_slice-4.ensures
    ∙ ap (λ os. if is_named q names then left_at c.args.choice (is_named q os) (state_by q (firmly None) steps c.as_slice-3.result.now) else None) c.as_slice-2.ensures
    ∙ ap (λ rs. if is_named q names then left_at c.args.choice (is_named q owned) (state_by q (firmly None) steps rs) else None) (c.as_slice-3.ensures ∙ c.in_ok-reaches.ensures)
    ∙ ap (λ b. if b then left_at c.args.choice (is_named q owned) (state_by q (firmly None) steps (all_reached [] steps)) else None)
    (c.in_ok-names.ensures q ∙ ap (λ os. is_named q os || is_named q (all_names steps)) c.as_slice.ensures)
    ∙ ap (λ os. if is_named q os || is_named q (all_names steps) then left_at c.args.choice (is_named q os) (state_by q (firmly None) steps (all_reached [] steps)) else None) c.in_ok-owned.ensures
