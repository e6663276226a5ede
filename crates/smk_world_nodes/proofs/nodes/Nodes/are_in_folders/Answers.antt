use Rattle.std.proofs.Common.{sym, subst, ◌∙◌}
use Rattle.smk_world_nodes.proofs.Stood.{AllStand, all_in_folders}
use Rattle.smk_world_nodes.proofs.nodes.Nodes.are_in_folders.Goals as goal

pub returns : goal.returns
returns c = λ is.
    all_in_folders c.args.self.now c.into_iter-key-iterator.result (c.into_iter-key-iterator.ensures.into_iter_gives ∙ c.iter-key-items.ensures.rest)
    (c.loop-key.invariant (subst (AllStand c.args.self.now) (sym c.in-None.ensures.steps.0) tt))
